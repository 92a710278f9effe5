-- Diagrams that are made node by node.
use Rattle.std.proofs.Common.{◌≡◌, ◌≢◌, ℕ, ◌<◌, ◌≤◌, List, [], sym, ◌∙◌, subst, inl, inr, arith}
use Rattle.unit_sets.proofs.Sorted.{Contains-nil}
use Rattle.zdd_families.specs.Family.{IsAbove, branch}
use Rattle.zdd_families.proofs.FamilyLemmas.{IsAbove-branch, IsAbove-lower, branch-filled}
use Rattle.zdd_families.specs.Map.{Knows, KnowsAs, Grown, IsClosed, family}
use Rattle.zdd_families.proofs.MapLemmas.{family-empty, family-unit, Knows-grown}
use Rattle.zdd_families.proofs.{Canonical.family-grown, Canonical.family-filled, Members.branch-cases}
use Rattle.cutset_listing.specs.Listing.{LacksEmptySet}
use Rattle.store_tests.specs.Made.{IsMade, Keeps}

pub keeps_grown : (old new : ℕ → ℕ) → IsClosed old → IsClosed new → Grown old new → Keeps old new
keeps_grown old new closed closed' grown r knows =
    (Knows-grown old new r grown knows, family-grown old new r closed closed' grown knows)

pub made_empty : {known : ℕ → ℕ} {below : ℕ} → IsMade known below 0
made_empty {known} {below} =
    record { knows = inl (omega arith); above = subst (IsAbove below) (sym (family-empty known)) tt }

pub made_unit : {known : ℕ → ℕ} {below : ℕ} → IsMade known below 1
made_unit {known} {below} =
    record { knows = inl (omega arith); above = subst (IsAbove below) (sym (family-unit known)) (tt, tt) }

pub made_kept : {old new : ℕ → ℕ} {below r : ℕ} → Keeps old new → IsMade old below r → IsMade new below r
made_kept {below} {r} keeps made =
    let same = keeps r made.knows in record { knows = same.0; above = subst (IsAbove below) (sym same.1) made.above }

pub made_lower : {known : ℕ → ℕ} {below above r : ℕ} → below ≤ above → IsMade known above r → IsMade known below r
made_lower {known} {below} {above} {r} less made =
    record { knows = made.knows; above = IsAbove-lower below above (family known r) less made.above }

pub made_node : {known : ℕ → ℕ} {below : ℕ} (x : ℕ) {r : ℕ} (lo hi : List (List ℕ)) → KnowsAs known r (branch x lo hi)
    → IsAbove x lo → IsAbove x hi → below < x → IsMade known below r
made_node {below} x lo hi is above above' less =
    record { knows = is.0; above = subst (IsAbove below) (sym is.1) (IsAbove-branch below x lo hi less above above') }

pub lacks_kept : (old new : ℕ → ℕ) (r : ℕ) → Keeps old new → Knows old r → LacksEmptySet (family old r)
    → LacksEmptySet (family new r)
lacks_kept old new r keeps knows lacks = subst LacksEmptySet (sym (keeps r knows).1) lacks

pub lacks_none : (known : ℕ → ℕ) → LacksEmptySet (family known 0)
lacks_none known = subst LacksEmptySet (sym (family-empty known)) (λ has. Contains-nil [] has)

pub lacks_node : (known : ℕ → ℕ) (x r : ℕ) (lo hi : List (List ℕ)) → KnowsAs known r (branch x lo hi) → LacksEmptySet lo
    → LacksEmptySet (family known r)
lacks_node known x r lo hi is lacks =
    subst LacksEmptySet (sym is.1) (λ has. elim (branch-cases x lo hi [] has) [
      | inl of_lo ↦ lacks of_lo
      | inr with_x ↦ absurd (let e = with_x.1 in absurd cc)
    ])

pub filled_node : (old new : ℕ → ℕ) (x : ℕ) {r q : ℕ} (lo : List (List ℕ)) → KnowsAs new r (branch x lo (family old q))
    → IsClosed old → Knows old q → q ≢ 0 → r ≢ 0
filled_node old new x {q} lo is closed knows filled none =
    branch-filled x lo (family old q) (family-filled old q closed knows filled)
    (sym is.1 ∙ subst (λ n. family new n ≡ []) (sym none) (family-empty new))

-- a reference that was made before
pub made_before : {old new : ℕ → ℕ} {below above r : ℕ} → Keeps old new → below ≤ above → IsMade old above r
    → IsMade new below r
made_before keeps less made =
    made_kept keeps (made_lower less made)
