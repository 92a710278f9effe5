-- The least count of each block, and a place where it stands.
use Rattle.std.proofs.Common.{◌≡◌, ◌≢◌, ℕ, suc, ◌+◌, ◌-◌, ◌*◌, ◌/◌, ◌<◌, ◌≤◌, min, true, false, List, []}
use Rattle.std.proofs.Common.{◌∷◌, ◌++◌, length, take, set, get_or, All, refl, sym, ◌∙◌, ap, arith, inl, inr}
use Rattle.std.proofs.Common.{Bool, ◌==◌, length-set, get_or-set_same, get_or-set_other}
use Rattle.std.proofs.lemmas.Bool.{cases_eq, cases_lt, cases_Bool}
use Rattle.std.proofs.{lemmas.Bool.Decides.nat_tests}
use Rattle.std.proofs.lemmas.List.{get_or_append_left, get_or_default, get_or_push, length_push}
use Rattle.unit_sets.specs.UnitList.{among, IsRising}
use Rattle.unit_sets.proofs.UnitListLemmas.{Contains-from_among}
use Rattle.residual_ledger.specs.Kept.{block_size, blocks_for, HasLeast, IsLowest, HasLowest}
use Rattle.residual_ledger.specs.Kept.{IsNearLowest, HasLowestOutside, HasLowestApart, IsOneMore, IsFirstBetween}
use Rattle.residual_ledger.specs.Kept.{IsFirstAtMost}
use Rattle.residual_ledger.proofs.RowLemmas.{in_order, one_more-lower_at, one_more-later}

-- the least numbers alone
pub HasLeast-lowest : {counts least lowest : List ℕ} → HasLowest counts least lowest → HasLeast counts least
HasLeast-lowest {counts} {least} {lowest} has = record {
  all = has.all;
  each = λ block inside.
      let own : IsLowest counts block (get_or least block 0) (get_or lowest block 0) = has.each block inside in
      record { stands = (get_or lowest block 0, own.inside, own.at, own.has); below = own.below };
}

pub block_below : {counts least lowest : List ℕ} (place : ℕ) → HasLowest counts least lowest → place < length counts
    → place / block_size < length least
block_below place has short = omega (arith, has.all)

-- ---- a count falls by one

-- the block of the count, where it falls below the least
own_lower : {counts : List ℕ} (place left : ℕ) {least low : ℕ} → place < length counts → left < least
    → IsLowest counts (place / block_size) least low → IsLowest (set counts place left) (place / block_size) left place
own_lower {counts} place left short less old = record {
  inside = omega (arith, length-set counts place left);
  at = refl;
  has = get_or-set_same counts place left 0 short;
  below = λ k inside block. elim (cases_eq k place) [
    | inl same ↦ rw (same, get_or-set_same counts place left 0 short) (omega arith)
    | inr apart ↦
        let shorter : k < length counts = omega (arith, length-set counts place left) in
        omega (arith, get_or-set_other counts place k left 0 apart, old.below k shorter block)
  ];
}

-- the block of the count, where it does not
own_same : {counts : List ℕ} (place left : ℕ) {least low : ℕ} → place < length counts → get_or counts place 0 ≡ suc left
    → least ≤ left → IsLowest counts (place / block_size) least low
    → IsLowest (set counts place left) (place / block_size) least low
own_same {counts} place left {low} short is most old =
    let apart : low ≢ place = λ e. absurd (omega (arith, is, old.has, ap (λ k. get_or counts k 0) e)) in
    record {
      inside = omega (arith, length-set counts place left, old.inside);
      at = old.at;
      has = get_or-set_other counts place low left 0 apart ∙ old.has;
      below = λ k inside block. elim (cases_eq k place) [
        | inl same ↦ rw (same, get_or-set_same counts place left 0 short) (omega arith)
        | inr other ↦
            let shorter : k < length counts = omega (arith, length-set counts place left) in
            omega (arith, get_or-set_other counts place k left 0 other, old.below k shorter block)
      ];
    }

-- another block
other_block : {counts : List ℕ} (place value : ℕ) {block least low : ℕ} → block ≢ place / block_size
    → IsLowest counts block least low → IsLowest (set counts place value) block least low
other_block {counts} place value {block} {low} apart old =
    let far : (k : ℕ) → k / block_size ≡ block → k ≢ place =
    λ k at e. apart (sym at ∙ ap (λ q. q / block_size) e) in
    record {
      inside = omega (arith, length-set counts place value, old.inside);
      at = old.at;
      has = get_or-set_other counts place low value 0 (far low old.at) ∙ old.has;
      below = λ k inside at.
          let shorter : k < length counts = omega (arith, length-set counts place value) in
          omega (arith, get_or-set_other counts place k value 0 (far k at), old.below k shorter at);
    }

pub lowered-low : {counts least lowest : List ℕ} (place left : ℕ) → HasLowest counts least lowest
    → place < length counts → left < get_or least (place / block_size) 0
    → HasLowest (set counts place left) (set least (place / block_size) left) (set lowest (place / block_size) place)
lowered-low {counts} {least} {lowest} place left has short less =
    let own : ℕ = place / block_size in
    let there : own < length least = block_below place has short in
    let there' : own < length lowest = omega (arith, has.long) in
    record {
      all = length-set least own left ∙ has.all ∙ ap blocks_for (sym (length-set counts place left));
      long = length-set lowest own place ∙ has.long ∙ sym (length-set least own left);
      each = λ block inside. elim (cases_eq block own) [
        | inl same ↦
            rw (same, get_or-set_same least own left 0 there, get_or-set_same lowest own place 0 there')
            (own_lower place left short less (has.each own there))
        | inr apart ↦
            rw (get_or-set_other least own block left 0 apart, get_or-set_other lowest own block place 0 apart)
            (other_block place left apart (has.each block (omega (arith, length-set least own left))))
      ];
    }

pub lowered-high : {counts least lowest : List ℕ} (place left : ℕ) → HasLowest counts least lowest
    → place < length counts → get_or counts place 0 ≡ suc left → get_or least (place / block_size) 0 ≤ left
    → HasLowest (set counts place left) least lowest
lowered-high {counts} {least} place left has short is most =
    record {
      all = has.all ∙ ap blocks_for (sym (length-set counts place left));
      long = has.long;
      each = λ block inside. elim (cases_eq block (place / block_size)) [
        | inl same ↦ rw same (own_same place left short is most (has.each (place / block_size) (omega arith)))
        | inr apart ↦ other_block place left apart (has.each block inside)
      ];
    }

-- ---- along a row, counts fall

-- the counts of the first sets of a row have fallen
pub record IsLowering (row old counts least lowest : List ℕ) (i : ℕ) : Type 0 where
  pub fallen : IsOneMore (take i row) counts old
  pub blocks : HasLowest counts least lowest

-- which set of a row falls, and what it then has
pub record IsFalling (row counts : List ℕ) (i place left : ℕ) : Type 0 where
  pub rising : IsRising row
  pub short : i < length row
  pub at : place ≡ get_or row i 0
  pub there : place < length counts
  pub is : get_or counts place 0 ≡ suc left

pub lowering-low : {row old counts least lowest : List ℕ} {i place left : ℕ} → IsFalling row counts i place left
    → left < get_or least (place / block_size) 0 → IsLowering row old counts least lowest i
    → IsLowering row old (set counts place left) (set least (place / block_size) left)
    (set lowest (place / block_size) place) (i + 1)
lowering-low {row} {i} {place} {left} falls less was = record {
  fallen = one_more-lower_at row i left falls.rising falls.short falls.at was.fallen falls.there falls.is;
  blocks = lowered-low place left was.blocks falls.there less;
}

pub lowering-high : {row old counts least lowest : List ℕ} {i place left : ℕ} → IsFalling row counts i place left
    → get_or least (place / block_size) 0 ≤ left → IsLowering row old counts least lowest i
    → IsLowering row old (set counts place left) least lowest (i + 1)
lowering-high {row} {i} {place} {left} falls most was = record {
  fallen = one_more-lower_at row i left falls.rising falls.short falls.at was.fallen falls.there falls.is;
  blocks = lowered-high place left was.blocks falls.there falls.is most;
}

-- a set of the row has still what it had
pub lowering-positive : {row old counts least lowest : List ℕ} {i : ℕ} (place : ℕ) → IsRising row → i < length row
    → place ≡ get_or row i 0 → All (λ p. 0 < get_or old p 0) row → IsLowering row old counts least lowest i
    → 0 < get_or counts place 0
lowering-positive {row} {counts} {i} place rising short at all was =
    rw (at, ← one_more-later row i rising short was.fallen) (all i 0 short)

-- ---- along a row, counts rise

-- a count has risen by one at most
risen_one : {row low high : List ℕ} (k : ℕ) → IsOneMore row low high
    → (get_or low k 0 ≤ get_or high k 0) × (get_or high k 0 ≤ suc (get_or low k 0))
risen_one {row} k more = elim (cases_Bool (among row k)) [
  | inl has ↦ (omega (arith, more.more k has), omega (arith, more.more k has))
  | inr none ↦ (omega (arith, more.same k none), omega (arith, more.same k none))
]

near_risen : {row low high : List ℕ} {block least place : ℕ} → IsOneMore row low high
    → IsLowest low block least place → IsNearLowest high block least place
near_risen {low} {place} more old = record {
  inside = omega (arith, more.long, old.inside);
  at = old.at;
  near = omega (arith, (risen_one place more).1, old.has);
  below = λ k inside at.
      let shorter : k < length low = omega (arith, more.long) in
      omega (arith, (risen_one k more).0, old.below k shorter at);
}

not_among : (row : List ℕ) {block : ℕ} (k : ℕ) → k / block_size ≡ block
    → ((place : ℕ) → among row place ≡ true → place / block_size ≡ block → ⊥) → among row k ≡ false
not_among row k at none = elim (cases_Bool (among row k)) [
  | inl has ↦ absurd (none k has at)
  | inr none' ↦ none'
]

exact_risen : {row low high : List ℕ} {block least place : ℕ} → IsOneMore row low high
    → ((k : ℕ) → among row k ≡ true → k / block_size ≡ block → ⊥) → IsLowest low block least place
    → IsLowest high block least place
exact_risen {row} {low} {place} more none old = record {
  inside = omega (arith, more.long, old.inside);
  at = old.at;
  has = more.same place (not_among row place old.at none) ∙ old.has;
  below = λ k inside at.
      let shorter : k < length low = omega (arith, more.long) in
      omega (arith, more.same k (not_among row k at none), old.below k shorter at);
}

pub risen : {row low high least lowest : List ℕ} → IsOneMore row low high → HasLowest low least lowest
    → HasLowestApart row high least lowest
risen more has = record {
  all = has.all ∙ ap blocks_for more.long;
  long = has.long;
  near = λ block inside.
      near_risen more (has.each block inside);
  exact = λ block inside none.
      exact_risen more none (has.each block inside);
}

-- ---- which blocks a row has

pub between_ends : (row : List ℕ) (place : ℕ) → IsRising row → among row place ≡ true
    → (get_or row 0 0 ≤ place) × (place ≤ get_or row (length row - 1) 0)
between_ends row place rising has =
    let found = Contains-from_among row place has in
    let k : ℕ = found.0 in
    let at : get_or row k 0 ≡ place = get_or_default row k 0 place found.1 ∙ found.2 in
    let short : k < length row = found.1 in (
      omega (arith, at, in_order row 0 k rising (omega arith) short),
      omega (arith, at, in_order row k (length row - 1) rising (omega arith) (omega arith)),
    )

pub outside_ends : {row counts least lowest : List ℕ} {from end : ℕ} → IsRising row
    → from ≡ get_or row 0 0 / block_size → end ≡ get_or row (length row - 1) 0 / block_size + 1
    → HasLowestApart row counts least lowest → HasLowestOutside from end counts least lowest
outside_ends {row} rising first last has = record {
  all = has.all;
  long = has.long;
  near = has.near;
  exact = λ block inside out. has.exact block inside (λ place in_row at.
      let ends = between_ends row place rising in_row in
      out (omega (arith, ends.0, first, at)) (omega (arith, ends.1, last, at)));
}

pub not_empty : (row : List ℕ) {none : Bool} → none ≡ (length row == 0) → none ≡ false → 0 < length row
not_empty row is some = grind (arith, nat_tests)

-- ---- blocks are looked through anew

near_lowest : {counts : List ℕ} {block least place : ℕ} → IsLowest counts block least place
    → IsNearLowest counts block least place
near_lowest is = record {
  inside = is.inside;
  at = is.at;
  near = omega (arith, is.has);
  below = is.below;
}

not_risen : {counts : List ℕ} {block least place : ℕ} → get_or counts place 0 ≤ least
    → IsNearLowest counts block least place → IsLowest counts block least place
not_risen {place} low near = record {
  inside = near.inside;
  at = near.at;
  has = omega (arith, low, near.below place near.inside near.at);
  below = near.below;
}

pub refreshed-same : {end : ℕ} {counts least lowest : List ℕ} {block : ℕ}
    → get_or counts (get_or lowest block 0) 0 ≤ get_or least block 0
    → HasLowestOutside block end counts least lowest → HasLowestOutside (block + 1) end counts least lowest
refreshed-same {counts} {least} {lowest} {block} low was = record {
  all = was.all;
  long = was.long;
  near = was.near;
  exact = λ b inside out. elim (cases_eq b block) [
    | inl same ↦
        not_risen (rw same low) (was.near b inside)
    | inr apart ↦ was.exact b inside (λ above below. out (omega arith) below)
  ];
}

pub refreshed-new : {end : ℕ} {counts least lowest : List ℕ} {block value place : ℕ} → block < length least
    → IsLowest counts block value place → HasLowestOutside block end counts least lowest
    → HasLowestOutside (block + 1) end counts (set least block value) (set lowest block place)
refreshed-new {counts} {least} {lowest} {block} {value} {place} there is was =
    let there' : block < length lowest = omega (arith, was.long) in
    let least' : List ℕ = set least block value in
    let lowest' : List ℕ = set lowest block place in
    let own : IsLowest counts block (get_or least' block 0) (get_or lowest' block 0) =
    rw (get_or-set_same least block value 0 there, get_or-set_same lowest block place 0 there') is in
    let long_least : length least' ≡ length least = length-set least block value in
    record {
      all = long_least ∙ was.all;
      long = length-set lowest block place ∙ was.long ∙ sym long_least;
      near = λ b inside. elim (cases_eq b block) [
        | inl same ↦ rw same (near_lowest own)
        | inr apart ↦
            rw (get_or-set_other least block b value 0 apart, get_or-set_other lowest block b place 0 apart)
            (was.near b (omega arith))
      ];
      exact = λ b inside out. elim (cases_eq b block) [
        | inl same ↦ rw same own
        | inr apart ↦
            rw (get_or-set_other least block b value 0 apart, get_or-set_other lowest block b place 0 apart)
            (was.exact b (omega arith) (λ above below. out (omega arith) below))
      ];
    }

-- ---- one block is looked through

pub record IsLowestSoFar (counts : List ℕ) (from end place low : ℕ) : Type 0 where
  pub above : from ≤ low
  pub short : low < end
  pub below : (k : ℕ) → from ≤ k → k < place → get_or counts low 0 ≤ get_or counts k 0

-- ---- the blocks one after another

pub record HasFirstLowest (counts least lowest : List ℕ) (block : ℕ) : Type 0 where
  pub long_least : length least ≡ block
  pub long_lowest : length lowest ≡ block
  pub each : (b : ℕ) → b < block → IsLowest counts b (get_or least b 0) (get_or lowest b 0)

pub first_lowest-more : {counts least lowest : List ℕ} {block value place : ℕ} → IsLowest counts block value place
    → HasFirstLowest counts least lowest block
    → HasFirstLowest counts (least ++ value ∷ []) (lowest ++ place ∷ []) (block + 1)
first_lowest-more {counts} {least} {lowest} {block} {value} {place} is was =
    record {
      long_least = omega (arith, length_push least value, was.long_least);
      long_lowest = omega (arith, length_push lowest place, was.long_lowest);
      each = λ b short. elim (cases_eq b block) [
        | inl same ↦
            rw (
              same,
              get_or_push least value 0 block was.long_least,
              get_or_push lowest place 0 block was.long_lowest,
            ) is
        | inr apart ↦
            rw (
              get_or_append_left least (value ∷ []) 0 b (omega (arith, was.long_least)),
              get_or_append_left lowest (place ∷ []) 0 b (omega (arith, was.long_lowest)),
            ) (was.each b (omega arith))
      ];
    }

-- ---- a search passes over blocks

pub over_blocks : {counts least lowest : List ℕ} {most block place : ℕ} → HasLowest counts least lowest
    → IsFirstAtMost least most block
    → IsFirstBetween counts (min (length counts) (block * block_size)) (length counts) most place
    → IsFirstAtMost counts most place
over_blocks {counts} {least} {block} has blocks found = record {
  low = omega arith;
  inside = found.inside;
  before = λ k above short. elim (cases_lt k (min (length counts) (block * block_size))) [
    | inl passed ↦
        let earlier : k / block_size < block = omega arith in
        let inside : k < length counts = omega arith in
        let there : k / block_size < length least = block_below k has inside in
        let low : get_or least (k / block_size) 0 ≤ get_or counts k 0 =
        (has.each (k / block_size) there).below k inside refl in
        omega (arith, low, blocks.before (k / block_size) (omega arith) earlier)
    | inr not_passed ↦ found.before k not_passed short
  ];
  here = found.here;
}
