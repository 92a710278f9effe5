-- Seats that learn, and what a worker is after its seat has learned.
use Rattle.std.proofs.Common.{◌≡◌, ℕ, ◌≤◌, List, [], All, refl, sym, ◌∙◌, subst}
use Rattle.std.proofs.Common.{add-zero}
use Rattle.std.proofs.{lemmas.List.append-nil, lemmas.List.Elements.All-weaker}
use Rattle.unit_sets.proofs.Sorted.{Contains-nil}
use Rattle.fault_definitions.specs.CutFamily.{IsCutFamily}
use Rattle.tree_families.specs.Due.{IsDueToTree}
use Rattle.zdd_families.specs.Map.{Grown, IsClosed}
use Rattle.zdd_families.proofs.{MapLemmas.Knows-grown, Canonical.family-grown}
use Rattle.zdd_shared_table.specs.Seats.{Seated, IsSoundSeat, map_of}
use Rattle.zdd_product.specs.Seats.{KnowsOne, WentAll}
use Rattle.zdd_product.proofs.{Several.CountsDue-went, After.grown_then}
use Rattle.family_copies.proofs.CopiesLemmas.{copies-grown}
use Rattle.zdd_build.specs.{declared.task.Task.Task, declared.worker.Finding.Finding, declared.worker.Worker.Worker}
use Rattle.zdd_build.specs.{Places.node_at}
use Rattle.zdd_build.specs.Workers.{CanPart, CanWork, CountsAsBefore, HasSplit, IsFound, Learned}

pub counts_then : {a b c : Seated} → CountsAsBefore a b → CountsAsBefore b c → CountsAsBefore a c
counts_then first second = record {
  fulls = second.fulls ∙ first.fulls;
  missed = second.missed ∙ first.missed;
  fills = second.fills ∙ first.fills;
}

pub Learned-nothing : {seat : Seated} → IsSoundSeat seat → Learned seat seat
Learned-nothing sound = record {
  store = refl;
  share = refl;
  keeps = λ r has. refl;
  sound = sound;
  counts = record { fulls = refl; missed = refl; fills = refl };
}

pub Learned-then : {a b c : Seated} → Learned a b → Learned b c → Learned a c
Learned-then {a} {b} {c} first second = record {
  store = second.store ∙ first.store;
  share = second.share ∙ first.share;
  keeps = grown_then (map_of a) (map_of b) (map_of c) first.keeps second.keeps;
  sound = second.sound;
  counts = counts_then first.counts second.counts;
}

-- nothing was filled and no search was refused
WentAll-counted : {due : List (List ℕ) → Type 0} {before after : Seated} → after.store ≡ before.store
    → Grown (map_of before) (map_of after) → IsSoundSeat after → CountsAsBefore before after → WentAll due before after
WentAll-counted {before} store keeps sound counts = record {
  store = store;
  keeps = keeps;
  sound = sound;
  fills =
      record {
        gained = [];
        fills = counts.fills ∙ sym (append-nil before.fills);
        each = λ r none. Contains-nil r none;
      };
  missed =
      record {
        gained = [];
        missed = counts.missed ∙ sym (append-nil before.missed);
        each = λ word none. Contains-nil word none;
      };
  fulls = counts.fulls ∙ sym (add-zero before.fulls);
}

pub WentAll-learned : {due : List (List ℕ) → Type 0} {before after : Seated} → Learned before after
    → WentAll due before after
WentAll-learned learned = WentAll-counted learned.store learned.keeps learned.sound learned.counts

-- workers that were split off have counted nothing with the seat
pub split_went : {due : List (List ℕ) → Type 0} {count : ℕ} {before after : Seated} → HasSplit count before after
    → WentAll due before after
split_went split = WentAll-counted split.store split.keeps split.sound split.counts

-- a known reference stays so
pub one_grown : (known known' : ℕ → ℕ) → IsClosed known → IsClosed known' → Grown known known'
    → (is : List (List ℕ) → Type 0) (r : ℕ) → KnowsOne known r is → KnowsOne known' r is
one_grown known known' closed closed' grown is r one = (
  Knows-grown known known' r grown one.0,
  subst is (sym (family-grown known known' r closed closed' grown one.0)) one.1,
)

-- a worker whose seat has learned
pub can_learned : {task : Task} {worker : Worker} {after : Seated} → CanWork task worker → Learned worker.ops after
    → CanWork task (record worker { ops = after })
can_learned {task} {worker} {after} can learned = record {
  own = learned.store ∙ can.own;
  share = learned.share ∙ can.share;
  counts =
      CountsDue-went (IsDueToTree task.tree.now) can.counts (WentAll-learned learned);
  equipped =
      record {
        copies =
            copies-grown worker.memory (map_of worker.ops) (map_of after) can.counts.sound.closed
            learned.sound.closed learned.keeps worker.copies can.equipped.copies;
        rooms = can.equipped.rooms;
      };
  full = λ is. subst (λ n. 1 ≤ n) (sym learned.counts.fulls) (can.full is);
}

-- a seat that can part its share and has learned still can
pub part_learned : {task : Task} {before after : Seated} → CanPart task before → Learned before after
    → CanPart task after
part_learned part learned = record {
  own = learned.store ∙ part.own;
  share = subst (λ n. 2 ≤ n) (sym learned.share) part.share;
  sound = learned.sound;
}

-- what was found stays so
pub found_grown : (known known' : ℕ → ℕ) → IsClosed known → IsClosed known' → Grown known known'
    → (task : Task) (findings : List Finding) → All (IsFound known task) findings → All (IsFound known' task) findings
found_grown known known' closed closed' grown task findings found =
    All-weaker (IsFound known task) (IsFound known' task)
    (λ finding is. (
      is.0,
      one_grown known known' closed closed' grown (IsCutFamily task.tree.now (node_at task.places.now finding.place))
          finding.family is.1,
    ))
    findings found
