-- A worker after it has made a node, and lists of workers.
use Rattle.std.proofs.Common.{◌≡◌, ℕ, ◌+◌, ◌<◌, ◌≤◌, true, List, [], ◌∷◌, All, length, set, get_or, refl, sym, ◌∙◌}
use Rattle.std.proofs.Common.{Vec, Global, ap, subst, inl, inr, arith, length-set}
use Rattle.std.proofs.Common.{get_or-set_same, get_or-set_other, Result, Ok, Err, IfOk, IfErr}
use Rattle.std.proofs.{lemmas.Bool.cases_eq, lemmas.List.Elements.All-nil, lemmas.List.Elements.All-set}
use Rattle.fault_definitions.specs.{CutFamily.IsCutFamily, Tree.FaultTree, Tree.IsNodeOf, WellFormed.IsTree}
use Rattle.zdd_families.specs.Nodes.{IsReached}
use Rattle.tree_families.proofs.TreeParts.{cut_family-parts}
use Rattle.tree_families.specs.Due.{IsDueToTree}
use Rattle.zdd_shared_table.specs.Seats.{Seated, map_of}
use Rattle.zdd_product.specs.Seats.{Gave, WasFull, Went, WentAll}
use Rattle.zdd_product.proofs.After.{grown_then, WasFull-as, WentOn-as}
use Rattle.zdd_product.proofs.Several.{CountsDue-went, WentAll-full, WentAll-on}
use Rattle.zdd_build.specs.{declared.task.Run.Run, declared.task.Task.Task, declared.worker.Finding.Finding}
use Rattle.zdd_build.specs.{declared.worker.Worker.Worker}
use Rattle.zdd_build.specs.Workers.{CanWork, FindsFull, GoesOn, HasLed, IsAtRun, IsAtWork, IsEquipped, IsFound, IsReady}
use Rattle.zdd_build.specs.Workers.{IsTeam, KeepsSeat, Learned}
use Rattle.zdd_build.proofs.SeatLemmas.{Learned-then, found_grown, part_learned}
use Rattle.zdd_build.proofs.TableLemmas.{can_make_on}

-- ---- only the memory has changed

pub keeps_then : {a b c : Worker} → KeepsSeat a b → KeepsSeat b c → KeepsSeat a c
keeps_then first second = record {
  ops = second.ops ∙ first.ops;
  found = second.found ∙ first.found;
  full = second.full ∙ first.full;
}

-- ---- a worker goes on

module _ {task : Task} {before mid : Worker} (after : Worker) (can : CanWork task before) (kept : KeepsSeat before mid)
    (equipped : IsEquipped task.tree.now after) (found : after.found ≡ mid.found) where
  went_on : Went (IsDueToTree task.tree.now) before.ops after.ops
      → WentAll (IsDueToTree task.tree.now) before.ops after.ops → (after.full ≡ true → 1 ≤ after.ops.fulls)
      → GoesOn task before after
  went_on went all full = record {
    keeps = went.keeps;
    can =
        record {
          own = went.store ∙ can.own;
          share = went.share ∙ can.share;
          counts = CountsDue-went (IsDueToTree task.tree.now) can.counts all;
          equipped = equipped;
          full = full;
        };
    found = found ∙ kept.found;
  }

  -- it made a node
  pub on_gave : {is : List (List ℕ) → Type 0} {r : ℕ} → Gave is (IsDueToTree task.tree.now) mid.ops after.ops r
      → after.full ≡ mid.full → GoesOn task before after
  on_gave {is} {r} later same =
      let on = (subst (λ (s : Seated). Gave is (IsDueToTree task.tree.now) s after.ops r) kept.ops later).on in
      went_on on.went (WentAll-on (IsDueToTree task.tree.now) on)
      (λ full. subst (λ n. 1 ≤ n) (sym on.fulls) (can.full (sym (same ∙ kept.full) ∙ full)))

  -- it found the store full
  pub on_full : WasFull (IsDueToTree task.tree.now) mid.ops after.ops → GoesOn task before after
  on_full later =
      let full = subst (λ (s : Seated). WasFull (IsDueToTree task.tree.now) s after.ops) kept.ops later in
      went_on full.went (WentAll-full (IsDueToTree task.tree.now) full) (λ _. let e = full.fulls in omega (arith, e))

pub goes_on_then : {task : Task} {a b c : Worker} → GoesOn task a b → GoesOn task b c → GoesOn task a c
goes_on_then {a} {b} {c} first second = record {
  keeps = grown_then (map_of a.ops) (map_of b.ops) (map_of c.ops) first.keeps second.keeps;
  can = second.can;
  found = second.found ∙ first.found;
}

-- nothing is done
pub goes_on_same : {task : Task} {worker : Worker} → CanWork task worker → GoesOn task worker worker
goes_on_same can = record { keeps = λ r has. refl; can = can; found = refl }

-- ---- workers up to a place, and from one on

module _ (P : Worker → Type 0) (workers : List Worker) (i : ℕ) (worker : Worker) where
  pub below_set : i < length workers → ((k : ℕ) (d : Worker) → k < i → P (get_or workers k d)) → P worker
      → (k : ℕ) (d : Worker) → k < i + 1 → P (get_or (set workers i worker) k d)
  below_set within below one k d low =
      elim (cases_eq k i) [
        | inl same ↦ subst (λ (q : ℕ). P (get_or (set workers i worker) q d)) (sym same)
            (subst P (sym (get_or-set_same workers i worker d within)) one)
        | inr differs ↦ subst P (sym (get_or-set_other workers i k worker d differs)) (below k d (omega arith))
      ]

  pub above_set : ((k : ℕ) (d : Worker) → i ≤ k → k < length workers → P (get_or workers k d)) → (k : ℕ) (d : Worker)
      → i + 1 ≤ k → k < length workers → P (get_or (set workers i worker) k d)
  above_set above k d high within =
      subst P (sym (get_or-set_other workers i k worker d (λ same. omega (arith, same, high))))
      (above k d (omega arith) within)

-- ---- a cut family that was copied into the store

module _ {tree : FaultTree} (kept : IsTree tree) {node : ℕ} (is_node : IsNodeOf tree node) {family : List (List ℕ)}
    (is : IsCutFamily tree node family) (before after : Seated) where
  to_tree : (part : List (List ℕ)) → IsReached family part → IsDueToTree tree part
  to_tree part reached = cut_family-parts tree kept node is_node family part is reached

  pub copied_gives : {E : Type 0} (result : Result ℕ E)
      → IfOk result (Gave (λ f. f ≡ family) (IsReached family) before after)
      → IfOk result (Gave (IsCutFamily tree node) (IsDueToTree tree) before after)
  copied_gives (Ok r) gave = record {
    on = WentOn-as (IsReached family) (IsDueToTree tree) to_tree before after gave.on;
    known = (gave.known.0, subst (IsCutFamily tree node) (sym gave.known.1) is);
  }
  copied_gives (Err e) gave = tt

  pub copied_full : {E : Type 0} (result : Result ℕ E) → IfErr result (λ _. WasFull (IsReached family) before after)
      → IfErr result (λ _. WasFull (IsDueToTree tree) before after)
  copied_full (Ok r) full = tt
  copied_full (Err e) full = WasFull-as (IsReached family) (IsDueToTree tree) to_tree before after full

-- ---- what was found, and is taken

-- nothing is found that is not taken yet: so all that was found is known
pub ready_at_work : {task : Task} {worker : Worker} → IsReady task worker → IsAtWork task worker
ready_at_work {task} {worker} ready = record {
  can = ready.can;
  found =
      subst (All (IsFound (map_of worker.ops) task)) (sym ready.none) (All-nil (IsFound (map_of worker.ops) task));
}

-- a worker that goes on has found what it had
pub at_work_on : {task : Task} {before after : Worker} → IsAtWork task before → GoesOn task before after
    → IsAtWork task after
at_work_on {task} {before} {after} at_work on = record {
  can = on.can;
  found =
      subst (λ (v : Vec Finding Global). All (IsFound (map_of after.ops) task) v.items) (sym on.found)
      (found_grown (map_of before.ops) (map_of after.ops) at_work.can.counts.sound.closed on.can.counts.sound.closed
      on.keeps task before.found.items at_work.found);
}

-- so it is at the run at which it was
pub at_run_on : {run : Run} {references : List ℕ} {before after : Worker} → IsAtRun run references before
    → GoesOn run.task before after → IsAtRun run references after
at_run_on {run} {references} {before} {after} is on = record {
  at_work = at_work_on is.at_work on;
  can_make =
      can_make_on (map_of before.ops) (map_of after.ops) is.at_work.can.counts.sound.closed on.can.counts.sound.closed
      on.keeps run references is.can_make;
}

-- a worker that is ready and goes on is ready
pub ready_on : {task : Task} {before after : Worker} → IsReady task before → GoesOn task before after
    → IsReady task after
ready_on ready on = record { can = on.can; none = ap (λ v. v.items) on.found ∙ ready.none }

-- the first of some workers found the store full
pub finds_first : (workers : List Worker) (worker : Worker) → 1 ≤ length workers → worker.full ≡ true
    → FindsFull (set workers 0 worker)
finds_first [] worker some full = absurd (omega (arith, some))
finds_first (first ∷ others) worker some full = full

-- a worker of the team has gone on, and the seat has learned
pub team_set : {task : Task} {seat : Seated} {workers : List Worker} {seat' : Seated} (i : ℕ) (worker : Worker)
    → IsTeam task seat workers → Learned seat seat' → IsReady task worker
    → HasLed task seat workers seat' (set workers i worker)
team_set {task} {workers} i worker team learned ready = record {
  learned = learned;
  size = length-set workers i worker;
  team =
      record {
        can_part = part_learned team.can_part learned;
        some = let e = length-set workers i worker in let s = team.some in omega (arith, e, s);
        ready = All-set (IsReady task) workers i worker ready team.ready;
      };
}

pub led_then : {task : Task} {a : Seated} {x : List Worker} {b : Seated} {y : List Worker} {c : Seated}
    {z : List Worker} → HasLed task a x b y → HasLed task b y c z → HasLed task a x c z
led_then first second = record {
  learned = Learned-then first.learned second.learned;
  size = second.size ∙ first.size;
  team = second.team;
}
