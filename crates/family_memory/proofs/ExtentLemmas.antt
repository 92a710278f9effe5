-- The extents of the references that a memory has, beside their words.
use Rattle.std.proofs.Common.{◌≡◌, ◌≢◌, ℕ, zero, suc, ◌+◌, ◌<◌, List, [], ◌∷◌, ◌++◌, length, take, get_or, refl}
use Rattle.std.proofs.Common.{sym, ◌∙◌, ap, subst, inl, inr, arith, length-append}
use Rattle.std.proofs.lemmas.Bool.{cases_lt}
use Rattle.std.proofs.lemmas.List.{get_or_append_left, get_or_push, get_or_read}
use Rattle.zdd_words.specs.Word.{level_of, lo_of, hi_of}
use Rattle.zdd_families.specs.{Map.IsNode, Family.branch}
use Rattle.zdd_families.proofs.MapLemmas.{family-empty, family-unit, lo_known, hi_known}
use Rattle.zdd_families.proofs.Canonical.{hi_filled}
use Rattle.family_memory.specs.Memory.{Held, Has, IsSound, family_in, map_of, word_family}
use Rattle.family_memory.specs.{declared.extents.Extent.Extent, Extents.IsExtent, Rests.IsRest}
use Rattle.family_memory.specs.Kept.{AreExtents, IsAdded, no_extent}
use Rattle.family_memory.proofs.{Adding.went_added, After.still, Empty.no_nodes, Nodes.has_known, RestLemmas.rests_more}

-- ---- a node that is yet to be added

pub has_lo : {held : Held} {word lo : ℕ} → IsSound held → IsNode (map_of held) word → lo ≡ lo_of word → Has held lo
has_lo {held} {word} sound node same = subst (Has held) (sym same) (has_known (lo_of word) sound (lo_known node))

pub has_hi : {held : Held} {word hi : ℕ} → IsSound held → IsNode (map_of held) word → hi ≡ hi_of word → Has held hi
has_hi {held} {word} sound node same = subst (Has held) (sym same) (has_known (hi_of word) sound (hi_known node))

pub extent_of_word : {held : Held} {word level lo hi : ℕ} {a b e : Extent} → IsSound held → IsNode (map_of held) word
    → level ≡ level_of word → lo ≡ lo_of word → hi ≡ hi_of word → IsExtent (family_in held lo) a
    → IsExtent (family_in held hi) b
    → ((f g : List (List ℕ)) → IsExtent f a → IsExtent g b → g ≢ [] → IsExtent (branch level f g) e)
    → IsExtent (word_family held word) e
extent_of_word {held} {word} {a} {b} {e} sound node same of_lo of_hi is is' made =
    subst (λ x. IsExtent (branch x (family_in held (lo_of word)) (family_in held (hi_of word))) e) same
    (made (family_in held (lo_of word)) (family_in held (hi_of word))
    (subst (λ q. IsExtent (family_in held q) a) of_lo is) (subst (λ q. IsExtent (family_in held q) b) of_hi is')
    (hi_filled (map_of held) word sound.closed node))

-- ---- a node that was added

module _ {held after : Held} {word r : ℕ} {extent : Extent} {extents : List Extent} (sound : IsSound held)
    (is : IsAdded held word after r) (here : r ≡ length held.words) (are : AreExtents held extents)
    (of_word : IsExtent (word_family held word) extent)
    (rest : IsRest held (level_of word) (word_family held word) extent.rest) where
  longer : length after.words ≡ length held.words + 1
  longer = ap length is.words ∙ length-append held.words (word ∷ [])

  each_more : (q : ℕ) → Has after q → IsExtent (family_in after q) (get_or (extents ++ extent ∷ []) q no_extent)
  each_more q has =
      elim (cases_lt q (length held.words)) [
        | inl there ↦
            let short : q < length extents = let e = are.count in omega (arith, e, there) in
            subst (IsExtent (family_in after q)) (sym (get_or_append_left extents (extent ∷ []) no_extent q short))
            (subst (λ f. IsExtent f (get_or extents q no_extent))
            (sym (still sound (went_added is) q there)) (are.each q there))
        | inr past ↦
            let at : q ≡ r = let e = longer in omega (arith, e, here, past, has) in
            let end : q ≡ length extents = let e = are.count in omega (arith, e, at, here) in
            subst (IsExtent (family_in after q)) (sym (get_or_push extents extent no_extent q (sym end)))
            (subst (λ p. IsExtent (family_in after p) extent) (sym at)
            (subst (λ f. IsExtent f extent) (sym is.family) of_word))
      ]

  pub extent_added : AreExtents after (extents ++ extent ∷ [])
  extent_added = record {
    count =
        length-append extents (extent ∷ []) ∙ (let e = are.count in let f = longer in omega (arith, e, f));
    each = each_more;
    rests =
        λ q inner has. rests_more extent sound is here are rest q inner (let e = longer in omega (arith, e, has));
  }

-- ---- no nodes

module _ {none unit : Extent} (of_none : IsExtent [] none) (of_unit : IsExtent ([] ∷ []) unit) where
  of_terminals : (room refused r : ℕ) → Has (no_nodes room refused) r
      → IsExtent (family_in (no_nodes room refused) r) (get_or (none ∷ unit ∷ []) r no_extent)
  of_terminals room refused zero has =
      subst (λ f. IsExtent f none) (sym (family-empty (map_of (no_nodes room refused)))) of_none
  of_terminals room refused (suc zero) has =
      subst (λ f. IsExtent f unit) (sym (family-unit (map_of (no_nodes room refused)))) of_unit
  of_terminals room refused (suc (suc r)) has = absurd (omega arith)

  pub extents_empty : {held : Held} {extents : List Extent} → held.words ≡ 0 ∷ 0 ∷ [] → extents ≡ none ∷ unit ∷ []
      → AreExtents held extents
  extents_empty {held} {extents} no_words both =
      subst (λ l. AreExtents (record { words = l; room = held.room; refused = held.refused }) extents) (sym no_words)
      (subst (AreExtents (no_nodes held.room held.refused)) (sym both)
      (record {
        count = refl;
        each = of_terminals held.room held.refused;
        rests = λ r inner has. absurd (omega (arith, inner, has));
      }))

-- the extents that are kept of a memory that is emptied
pub first_two_extents : {held : Held} (after : Held) (extents : List Extent) → IsSound held → AreExtents held extents
    → after.words ≡ 0 ∷ 0 ∷ [] → AreExtents after (take 2 extents)
first_two_extents after [] sound are none =
    absurd (let few = sound.terminals in let e = are.count in omega (arith, e, few))
first_two_extents after (a ∷ []) sound are none =
    absurd (let few = sound.terminals in let e = are.count in omega (arith, e, few))
first_two_extents {held} after (a ∷ b ∷ extents) sound are none =
    let few = sound.terminals in
    extents_empty (subst (λ f. IsExtent f a) (family-empty (map_of held)) (are.each 0 (omega (arith, few))))
    (subst (λ f. IsExtent f b) (family-unit (map_of held)) (are.each 1 (omega (arith, few)))) none refl

-- ---- an extent that was read

pub extent_read : {inside held : Held} {extents : List Extent} {n r : ℕ} {extent : Extent} → inside ≡ held → n ≡ r
    → Has held r → AreExtents inside extents → extent ≡ get_or extents n extent → IsExtent (family_in held r) extent
extent_read {inside} {extents} {n} {r} {extent} same e has are read =
    let there : Has inside r = subst (λ (h : Held). Has h r) (sym same) has in
    let short : n < length extents = let c = are.count in omega (arith, c, e, there) in
    let is : extent ≡ get_or extents r no_extent =
    get_or_read extents n extent short read no_extent ∙ ap (λ q. get_or extents q no_extent) e in
    subst (λ (h : Held). IsExtent (family_in h r) extent) same
    (subst (IsExtent (family_in inside r)) (sym is) (are.each r there))
