-- The ranks of closed nodes.
use Rattle.std.proofs.Common.{◌≡◌, ◌≢◌, ℕ, suc, ◌<◌, ◌≤◌, Bool, false, List, [], ◌∷◌, length, sym, ◌∙◌, inl, inr}
use Rattle.std.proofs.Common.{arith}
use Rattle.std.specs.Prelude.{slice_index, slice_set}
use Rattle.std.proofs.lemmas.List.{length-set, get_or-set_same, get_or-set_other}
use Rattle.std.proofs.lemmas.Bool.{cases_eq}
use Rattle.graph_cycles.specs.Graph.{Goes, successors, rank_over}
use Rattle.graph_cycles.specs.{declared.walk.Stage.Stage, declared.walk.Stage.TheVariants.Closed}
use Rattle.graph_cycles.specs.Walk.{HasRanks, stage_at, mark_at}
use Rattle.graph_cycles.proofs.Surveys.{rank_over-agree}

-- ranks up to a number give a rank above them of one more at most
pub rank_over-bounded : (ranks nodes : List ℕ) (count : ℕ) → ((x : ℕ) → slice_index ranks x ≤ count)
    → rank_over ranks nodes ≤ suc count
rank_over-bounded ranks [] count h = omega arith
rank_over-bounded ranks (node ∷ nodes) count h = omega (arith, h node, rank_over-bounded ranks nodes count h)

-- where no more nodes are closed, the ranks serve
pub HasRanks-fewer : {graph : List (List ℕ)} {stages : List Stage} (stages' : List Stage) {ranks : List ℕ}
    {marks : List Bool}
    {count : ℕ}
    → ((x : ℕ) → stage_at stages' x ≡ Closed → stage_at stages x ≡ Closed)
    → HasRanks graph stages ranks marks count → HasRanks graph stages' ranks marks count
HasRanks-fewer stages' was h = record {
  ranks_all = h.ranks_all;
  ranked = λ x now unmarked. h.ranked x (was x now) unmarked;
  bounded = h.bounded;
}

-- a closed node that is marked needs no rank
pub HasRanks-marked : {graph : List (List ℕ)} {stages : List Stage} (stages' : List Stage) {ranks : List ℕ}
    {marks : List Bool} (marks' : List Bool)
    {count : ℕ} (count' : ℕ)
    → ((x : ℕ) → stage_at stages' x ≡ Closed → mark_at marks' x ≡ false
    → (stage_at stages x ≡ Closed) × (mark_at marks x ≡ false))
    → count ≤ count'
    → HasRanks graph stages ranks marks count → HasRanks graph stages' ranks marks' count'
HasRanks-marked stages' marks' count' was more h = record {
  ranks_all = h.ranks_all;
  ranked = λ x now unmarked. let before = was x now unmarked in h.ranked x before.0 before.1;
  bounded = λ x. omega (arith, h.bounded x);
}

-- one node more is closed, with its rank
pub HasRanks-one : {graph : List (List ℕ)} {stages : List Stage} (stages' : List Stage) {ranks : List ℕ}
    {marks : List Bool} (marks' : List Bool)
    {count : ℕ} (count' v : ℕ)
    → v < length ranks
    → stage_at stages v ≢ Closed
    → ((x y : ℕ) → stage_at stages x ≡ Closed → Goes graph x y → stage_at stages y ≡ Closed)
    → ((x : ℕ) → stage_at stages' x ≡ Closed → x ≢ v
    → (stage_at stages x ≡ Closed) × (mark_at marks' x ≡ mark_at marks x))
    → ¬ Goes graph v v
    → count < count'
    → HasRanks graph stages ranks marks count
    → HasRanks graph stages' (slice_set ranks v (rank_over ranks (successors graph v))) marks' count'
HasRanks-one {graph} {stages} stages' {ranks} {marks} marks' {count} count' v in_ranks opened closed was loopless more
    h =
    record {
      ranks_all = length-set ranks v (rank_over ranks (successors graph v)) ∙ h.ranks_all;
      ranked = λ x now unmarked. elim (cases_eq x v) [
        | inl same ↦ rw same (at_v ∙ rank_over-agree ranks after (successors graph v)
            (λ y goes. sym (elsewhere y (λ e. loopless (rw e at goes)))))
        | inr other ↦
            let before : (stage_at stages x ≡ Closed) × (mark_at marks' x ≡ mark_at marks x) = was x now other in
            let unmarked_before : mark_at marks x ≡ false = sym before.1 ∙ unmarked in
            elsewhere x other ∙ (h.ranked x before.0 unmarked_before
            ∙ rank_over-agree ranks after (successors graph x)
            (λ y goes. sym (elsewhere y (λ e. opened (rw e at (closed x y before.0 goes))))))
      ];
      bounded = λ x. elim (cases_eq x v) [
        | inl same ↦ rw (same, at_v) (omega (arith, rank_over-bounded ranks (successors graph v) count h.bounded))
        | inr other ↦ omega (arith, elsewhere x other, h.bounded x)
      ];
    }
  where
    after : List ℕ
    after = slice_set ranks v (rank_over ranks (successors graph v))

    at_v : slice_index after v ≡ rank_over ranks (successors graph v)
    at_v = get_or-set_same ranks v (rank_over ranks (successors graph v)) 0 in_ranks

    elsewhere : (x : ℕ) → x ≢ v → slice_index after x ≡ slice_index ranks x
    elsewhere x other = get_or-set_other ranks v x (rank_over ranks (successors graph v)) 0 other
