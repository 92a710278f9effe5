-- Places by rank.
use Rattle.std.proofs.Common.{◌≡◌, ℕ, ◌<◌, List, get_or, arith}
use Rattle.std.proofs.lemmas.List.{get_or_default}
use Rattle.std.specs.List.Sorted.{IsPermutation, IsNonDecreasingBy}
use Rattle.std.proofs.lemmas.List.Sorted.{All-permutation, Contains-permutation}
use Rattle.fault_definitions.specs.{Tree.FaultTree, Tree.rank_of, WellFormed.IsTree}
use Rattle.zdd_build.specs.{declared.places.Place.Place, declared.task.Run.Run}
use Rattle.zdd_build.specs.Places.{ArePlaces, HasPlaces, IsPlace, IsRun, place_at}

-- places that are put in order of rank
pub places_sorted : {tree : FaultTree} → IsTree tree → {before after : List Place} → IsPermutation before after
    → HasPlaces tree before → IsNonDecreasingBy (λ place. place.rank) after → ArePlaces tree after
places_sorted {tree} kept {before} {after} moved has sorted = record {
  kept = kept;
  has = record {
    sound = All-permutation (IsPlace tree) before after moved has.sound;
    all =
        λ node low high read. Contains-permutation before after (record { rank = rank_of tree node; node = node }) moved
        (has.all node low high read);
  };
  sorted = sorted;
}

-- what is read at a place of a run is the place
pub place_read : {run : Run} → IsRun run → (k : ℕ) → k < run.to → (d : Place)
    → place_at run.task.places.now k ≡ get_or run.task.places.now k d
place_read {run} is k inside d =
    get_or_default run.task.places.now k (record { rank = 0; node = 0 }) d
    (let all = is.within in omega (arith, all, inside))
