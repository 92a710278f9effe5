-- Entries that are cut, filled up with the first one, or put in a place, and what is true of all of them.
use Rattle.std.proofs.Common.{◌≡◌, ◌⊎◌, Bool, true, false, if◌then◌else◌, List, [], ◌∷◌, ◌++◌, All, Contains, ℕ, take}
use Rattle.std.proofs.Common.{inl, inr, refl, replicate, sym, subst, slice_set}
use Rattle.std.proofs.lemmas.List.Elements.{All-append, All-contains, All-contains_itself, All-replicate, All-set}
use Rattle.std.proofs.lemmas.List.Elements.{All-take, All-weaker}
use Rattle.unit_sets.proofs.Sorted.{Contains-cons_first, Contains-cons_other}
use Rattle.kept_answers.specs.{Kept.AreKept, Kept.first_entry, declared.answers.Entry.Entry}

-- what is true of the first entry and of all that were there is true of all that are kept
pub all_kept : (P : Entry → Type 0) (before after : List Entry) → P first_entry → All P before → AreKept before after
    → All P after
all_kept P before after first all kept =
    All-weaker (λ entry. Contains before entry ⊎ (entry ≡ first_entry)) P
    (λ entry from. elim from [
      | inl there ↦ All-contains P before entry all there
      | inr is ↦ subst P (sym is) first
    ]) after kept

pub kept_itself : (entries : List Entry) → AreKept entries entries
kept_itself entries =
    All-weaker (Contains entries) (λ entry. Contains entries entry ⊎ (entry ≡ first_entry)) (λ entry has. inl has)
    entries (All-contains_itself entries)

pub kept_resized : (fits : Bool) (n more : ℕ) (old : List Entry) {new : List Entry}
    → new ≡ (if fits then take n old ++ replicate more first_entry else old) → AreKept old new
kept_resized true n more old same =
    let From : Entry → Type 0 = λ entry. Contains old entry ⊎ (entry ≡ first_entry) in
    subst (All From) (sym same) (All-append From (take n old) (replicate more first_entry)
    (All-take From n old (kept_itself old)) (All-replicate From more first_entry (inr refl)))
kept_resized false n more old same = subst (AreKept old) (sym same) (kept_itself old)

pub kept_from_none : (fits : Bool) (n more : ℕ) {old new : List Entry} → old ≡ []
    → new ≡ (if fits then take n old ++ replicate more first_entry else old) → AreKept [] new
kept_from_none fits n more {old} {new} none same = subst (λ l. AreKept l new) none (kept_resized fits n more old same)

-- one more that may be there
pub kept_more : (entry : Entry) (before after : List Entry) → AreKept before after → AreKept (entry ∷ before) after
kept_more entry before after kept =
    All-weaker (λ e. Contains before e ⊎ (e ≡ first_entry)) (λ e. Contains (entry ∷ before) e ⊎ (e ≡ first_entry))
    (λ e from. elim from [
      | inl there ↦ inl (Contains-cons_other entry e before there)
      | inr is ↦ inr is
    ]) after kept

pub kept_put : (entry : Entry) (before after : List Entry) (place : ℕ) → AreKept before after
    → AreKept (entry ∷ before) (slice_set after place entry)
kept_put entry before after place kept =
    All-set (λ e. Contains (entry ∷ before) e ⊎ (e ≡ first_entry)) after place entry
    (inl (Contains-cons_first entry before)) (kept_more entry before after kept)
