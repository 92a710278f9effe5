-- What the rule tells of a view.
use Rattle.std.proofs.Common.{◌≡◌, ◌≢◌, ℕ, ◌+◌, ◌-◌, ◌<◌, ◌≤◌, List, get_or, sym, ◌∙◌, subst, arith}
use Rattle.zdd_families.specs.Map.{IsNode, IsClosed, IsUnique}
use Rattle.zdd_shared_table.specs.{Known.find, Known.placed, Rule.HoldsNodes, Rule.Fits, Seats.IsSoundView}
use Rattle.zdd_shared_table.specs.{declared.view.View.View}
use Rattle.zdd_shared_table.proofs.Maps.{find-stands, find-standing, placed-inside, inside-slot}
use Rattle.zdd_shared_table.proofs.Filling.{IsOf-known, IsGrown-placed}

-- what a view knows is closed
pub closed_view : {home : ℕ → ℕ} {size : ℕ} {words : List ℕ} (v : View) → HoldsNodes home size words
    → Fits home size words v → IsClosed (find v.known)
closed_view {home} {size} {words} v rule fits r known =
    let at : placed words r ≡ find v.known r = IsGrown-placed fits r known in (
      (placed-inside words r (λ none. known (sym at ∙ none))).0,
      (fits.known r (find v.known r) (find-stands v.known r known)).1,
    )

module _ {home : ℕ → ℕ} {size : ℕ} {words : List ℕ} (v : View) (rule : HoldsNodes home size words)
    (fits : Fits home size words v) (sized : v.size ≡ size) where
  -- a known reference has a slot, which holds its word
  pub slot_of : (reference : ℕ) → find v.known reference ≢ 0
      → (2 ≤ reference) × (get_or words (reference - 2) 0 ≡ find v.known reference)
  slot_of reference known =
      let at : placed words reference ≡ find v.known reference = IsGrown-placed fits reference known in
      let inside = placed-inside words reference (λ none. known (sym at ∙ none)) in
      (inside.0, sym inside.1 ∙ at)

  within : (reference : ℕ) → find v.known reference ≢ 0 → reference < v.size + 2
  within reference known =
      let slot = slot_of reference known in
      let h = inside-slot words (reference - 2) (λ none. known (sym slot.1 ∙ none)) in
      let s = rule.sized in let large = slot.0 in omega arith

  unique : (reference other : ℕ) → find v.known reference ≢ 0 → find v.known reference ≡ find v.known other
      → reference ≡ other
  unique reference other known same =
      let slot = slot_of reference known in
      let slot' = slot_of other (λ none. known (same ∙ none)) in
      let e : reference - 2 ≡ other - 2 =
      rule.once (reference - 2) (other - 2) (λ none. known (sym slot.1 ∙ none)) (slot.1 ∙ (same ∙ sym slot'.1)) in
      let large = slot.0 in let large' = slot'.0 in omega arith

  pub told : IsSoundView v
  told = record {
    closed = closed_view v rule fits;
    unique = unique;
    agree = λ reference word h. find-standing v.known reference (IsOf-known fits) h;
    within = within;
    missed = fits.missed;
    fills = fits.fills;
  }

-- the words of the table are a closed map
pub closed_words : {home : ℕ → ℕ} {size : ℕ} {words : List ℕ} → HoldsNodes home size words → IsClosed (placed words)
closed_words {words} rule r some =
    let inside = placed-inside words r some in (
      inside.0,
      subst (λ w. IsNode (placed words) w) (sym inside.1) (rule.nodes (r - 2) (λ none. some (inside.1 ∙ none))),
    )

-- different references have different words in the table
pub unique_words : {home : ℕ → ℕ} {size : ℕ} {words : List ℕ} → HoldsNodes home size words → IsUnique (placed words)
unique_words {words} rule r q some same =
    let one = placed-inside words r some in
    let other = placed-inside words q (λ none. some (same ∙ none)) in
    let e : r - 2 ≡ q - 2 = rule.once (r - 2) (q - 2) (λ none. some (one.1 ∙ none)) (sym one.1 ∙ (same ∙ other.1)) in
    let large = one.0 in let large' = other.0 in omega arith
