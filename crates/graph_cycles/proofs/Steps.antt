-- One step of the walk leaves it sound, with less to do.
use Rattle.std.proofs.Common.{◌≡◌, ◌≢◌, ℕ, ◌+◌, ◌-◌, ◌<◌, ◌≤◌, List, length, refl, sym, ap, ◌∙◌, inl, inr, arith}
use Rattle.std.specs.Prelude.{slice_index, slice_set}
use Rattle.std.proofs.lemmas.List.{length_push, get_or-set_same, get_or-set_other}
use Rattle.std.proofs.lemmas.Bool.{cases_eq}
use Rattle.graph_cycles.specs.{Graph.IsGraph, Graph.Goes, declared.walk.Stage.Stage, declared.walk.Walk.Walk}
use Rattle.graph_cycles.specs.declared.walk.Stage.TheVariants.{New, Open, Closed}
use Rattle.graph_cycles.specs.Walk.{IsKnown, IsOn, IsTop, stage_at, work_left}
use Rattle.graph_cycles.specs.State.{Stands, StaysMet, Meets, Joins, Follows, steps_left}
use Rattle.graph_cycles.proofs.{Merged.IsSound-merged}
use Rattle.graph_cycles.proofs.{Ranked.HasRanks-fewer, Ordered.AreOrdered-same, Work.work-visited}
use Rattle.graph_cycles.proofs.Visited.{IsSound-visited, IsOn-more, at_old}

-- an edge from the node at a position of the path is followed
pub record Followed (graph : List (List ℕ)) (old new : Walk) (t x : ℕ) : Type 0 where
  pub stands : Stands graph new
  pub known : IsKnown new.stages.items new.pieces.items t x
  pub on : IsOn new.path.items t
  pub node : slice_index new.unclosed.items t ≡ slice_index old.unclosed.items t
  pub explored : new.explored.items ≡ old.explored.items
  pub met : StaysMet old new
  pub steps : steps_left graph new ≤ steps_left graph old

open_top : (graph : List (List ℕ)) {w : Walk} {t : ℕ} → Stands graph w → IsTop w.path.items t
    → t < length w.unclosed.items
open_top graph {w} s top = omega (arith, s.sound.path_open (length w.path.items - 1) (omega (arith, top.0)), top.1)

IsOn-top : (path : List ℕ) {t : ℕ} → IsTop path t → IsOn path t
IsOn-top path top = (length path - 1, omega (arith, top.0), top.1)

-- a stage other than the one that x was given was there before
not_given : (stages : List Stage) (x n y : ℕ) {stage : Stage} → Open n ≢ stage → x < length stages
    → stage_at (slice_set stages x (Open n)) y ≡ stage → stage_at stages y ≡ stage
not_given stages x n y differs l is = elim (cases_eq y x) [
  | inl same ↦ absurd (differs (cc (get_or-set_same stages x (Open n) New l)))
  | inr other ↦ sym (get_or-set_other stages x y (Open n) New other) ∙ is
]

-- a node that is met leaves the walk sound
pub record Met (graph : List (List ℕ)) (old new : Walk) (x : ℕ) : Type 0 where
  pub stands : Stands graph new
  pub is_open : stage_at new.stages.items x ≡ Open (length old.unclosed.items)
  pub met : StaysMet old new
  pub steps : steps_left graph new + 1 ≡ steps_left graph old

pub Met-Meets : (graph : List (List ℕ)) {old new : Walk} {x : ℕ}
    → Stands graph old → x < length graph → stage_at old.stages.items x ≡ New
    → ((t : ℕ) → IsTop old.path.items t → Goes graph (slice_index old.unclosed.items t) x)
    → Meets old new x → Met graph old new x
Met-Meets graph {old} {new} {x} s in_graph is_new ahead m =
    rw m.rest (record {
      stands = record {
        sound = rw (m.stages, m.unclosed, m.pieces, m.path) (IsSound-visited x s.sound is_new in_graph ahead);
        ranks = HasRanks-fewer new.stages.items was_closed s.ranks;
        order = AreOrdered-same new.stages.items stays_closed was_closed s.order;
      };
      is_open = rw m.stages (get_or-set_same old.stages.items x (Open n) New x_in);
      met = λ y is. not_given old.stages.items x n y (λ e. cc) x_in (rw m.stages at is);
      steps =
          let works : work_left graph old.explored.items new.stages.items + 2
          ≡ work_left graph old.explored.items old.stages.items =
          rw m.stages (work-visited graph old.explored.items old.stages.items x n s.sound.explored_all
          s.sound.stages_all in_graph is_new) in
          omega (arith, ap length m.path, length_push old.path.items n);
    })
  where
    n : ℕ
    n = length old.unclosed.items

    x_in : x < length old.stages.items
    x_in = omega (arith, s.sound.stages_all, in_graph)

    was_closed : (y : ℕ) → stage_at new.stages.items y ≡ Closed → stage_at old.stages.items y ≡ Closed
    was_closed y is = not_given old.stages.items x n y (λ e. cc) x_in (rw m.stages at is)

    stays_closed : (y : ℕ) → stage_at old.stages.items y ≡ Closed → stage_at new.stages.items y ≡ Closed
    stays_closed y is = rw m.stages (elim (cases_eq y x) [
      | inl same ↦ absurd cc
      | inr other ↦ get_or-set_other old.stages.items x y (Open n) New other ∙ is
    ])

module _ (graph : List (List ℕ)) {old new : Walk} {t x : ℕ}
    (whole : IsGraph graph) (s : Stands graph old) (top : IsTop old.path.items t)
    (goes : Goes graph (slice_index old.unclosed.items t) x)
    (f : Follows old new x) where
  followed_new : stage_at old.stages.items x ≡ New → Followed graph old new t x
  followed_new is =
      let m : Meets old new x = f.to_new is in
      let l : t < length old.unclosed.items = open_top graph s top in
      let done : Met graph old new x = Met-Meets graph s (whole (slice_index old.unclosed.items t) x goes) is
      (λ t' top'. rw (sym top.1 ∙ top'.1) at goes) m in
      record {
        stands = done.stands;
        known = inr (length old.unclosed.items, done.is_open, λ c lc le. omega (arith, l));
        on = rw m.path (IsOn-more old.path.items (length old.unclosed.items) (IsOn-top old.path.items top));
        node = ap (λ us. slice_index us t) m.unclosed ∙ at_old old.unclosed.items x t l;
        explored = ap (λ w. w.explored.items) m.rest;
        met = done.met;
        steps = omega (arith, done.steps);
      }

  followed_open : (i : ℕ) → stage_at old.stages.items x ≡ Open i → Followed graph old new t x
  followed_open i is =
      let j : Joins old new i = f.to_open i is in
      let at_i : (i < length old.unclosed.items) × (slice_index old.unclosed.items i ≡ x) = s.sound.placed x i is in
      rw j.rest (record {
        stands = record {
          sound = IsSound-merged j.pieces s.sound top at_i.0 (rw at_i.1 goes);
          ranks = s.ranks;
          order = s.order;
        };
        known = inr (i, is, λ c lc le. j.pieces.kept c lc);
        on = IsOn-top old.path.items top;
        node = refl;
        explored = refl;
        met = λ y is'. is';
        steps = omega arith;
      })

  followed_closed : stage_at old.stages.items x ≡ Closed → Followed graph old new t x
  followed_closed is =
      rw (f.to_closed is) (record {
        stands = s;
        known = inl is;
        on = IsOn-top old.path.items top;
        node = refl;
        explored = refl;
        met = λ y is'. is';
        steps = omega arith;
      })

  by_stage : (stage : Stage) → stage_at old.stages.items x ≡ stage → Followed graph old new t x
  by_stage New is = followed_new is
  by_stage (Open i) is = followed_open i is
  by_stage Closed is = followed_closed is

  pub Followed-Follows : Followed graph old new t x
  Followed-Follows = by_stage (stage_at old.stages.items x) refl
