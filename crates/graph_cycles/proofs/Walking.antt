-- A walk from a node, while it goes on.
use Rattle.std.proofs.Common.{◌≡◌, ◌≢◌, ℕ, ◌<◌, ◌≤◌, List, length, refl, inl, inr, arith}
use Rattle.std.proofs.lemmas.Bool.{cases_lt}
use Rattle.graph_cycles.specs.Walk.{IsTop, IsOn, stage_at}
use Rattle.graph_cycles.specs.{declared.walk.Walk.Walk, declared.walk.Stage.Stage, Graph.IsReverseTopological}
use Rattle.graph_cycles.specs.declared.walk.Stage.TheVariants.{New, Open, Closed}
use Rattle.graph_cycles.specs.State.{Stands, StaysMet, Meets}
use Rattle.graph_cycles.proofs.{Steps.Met-Meets, Ordered.whole_order}
use Rattle.std.specs.Prelude.{slice_index}

pub record Walking (graph : List (List ℕ)) (old new : Walk) (root : ℕ) : Type 0 where
  pub stands : Stands graph new
  pub met : StaysMet old new
  pub root_met : stage_at new.stages.items root ≢ New

-- where the path is empty it has no end
pub no_top : (path : List ℕ) → length path ≡ 0 → {A : Type 0} → {t : ℕ} → IsTop path t → A
no_top path none top = absurd (omega (arith, top.0))

-- a walk begins
pub Walking-meets : {graph : List (List ℕ)} {old new : Walk} {root : ℕ}
    → Stands graph old → length old.path.items ≡ 0 → root < length graph → stage_at old.stages.items root ≡ New
    → Meets old new root → Walking graph old new root
Walking-meets {graph} {old} s none within is_new m =
    let done = Met-Meets graph s within is_new (λ t top. no_top old.path.items none top) m in
    record { stands = done.stands; met = done.met; root_met = λ still. (let is_open = done.is_open in cc) }

-- the nodes before one are met, and the walk rests
pub record Visited (graph : List (List ℕ)) (w : Walk) (n : ℕ) : Type 0 where
  pub stands : Stands graph w
  pub rests : length w.path.items ≡ 0
  pub met : (x : ℕ) → x < n → stage_at w.stages.items x ≢ New

no_unclosed : (graph : List (List ℕ)) {w : Walk} → Stands graph w → length w.path.items ≡ 0
    → length w.unclosed.items ≡ 0
no_unclosed graph {w} s none = elim (cases_lt 0 (length w.unclosed.items)) [
  | inl some ↦
      let first : 0 < length w.pieces.items = (s.sound.first some).0 in
      let on : IsOn w.path.items (slice_index w.pieces.items 0) = s.sound.roots 0 first in
      absurd (omega (arith, on.1))
  | inr empty ↦ omega arith
]

closed_by : (graph : List (List ℕ)) {w : Walk} (x : ℕ) (stage : Stage) → Stands graph w → length w.unclosed.items ≡ 0
    → stage_at w.stages.items x ≢ New
    → stage_at w.stages.items x ≡ stage → stage_at w.stages.items x ≡ Closed
closed_by graph x New s none met is = absurd (met is)
closed_by graph x Closed s none met is = is
closed_by graph x (Open i) s none met is = absurd (omega (arith, (s.sound.placed x i is).0))

-- once all nodes are met and the walk rests, all are closed
pub all_closed : {graph : List (List ℕ)} {w : Walk} {n : ℕ} → Visited graph w n → (x : ℕ) → x < n
    → stage_at w.stages.items x ≡ Closed
all_closed {graph} {w} v x l =
    closed_by graph x (stage_at w.stages.items x) v.stands (no_unclosed graph v.stands v.rests) (v.met x l) refl

-- and stand in order
pub all_in_order : {graph : List (List ℕ)} {w : Walk} {n : ℕ} → Visited graph w n → length graph ≤ n
    → IsReverseTopological graph w.closed.items
all_in_order v whole =
    whole_order v.stands.sound.stages_all (λ x l. all_closed v x (omega arith)) v.stands.order
