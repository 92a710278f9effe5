-- What is left of a node's sets where sets with low units are passed over.
use Rattle.std.proofs.Common.{◌≡◌, ℕ, ◌+◌, ◌<◌, ◌≤◌, true, ◌==◌, List, ◌∷◌, ◌++◌, [], Contains, length, get_or, refl}
use Rattle.std.proofs.Common.{sym, ◌∙◌, ap, subst, inl, inr, arith, eq-eqb}
use Rattle.std.proofs.lemmas.Bool.{cases_lt, or_left}
use Rattle.std.proofs.lemmas.List.{get_or_append_left, get_or_push, get_or_read}
use Rattle.unit_sets.specs.UnitList.{among}
use Rattle.zdd_words.specs.Word.{level_of, lo_of, hi_of}
use Rattle.zdd_families.specs.{Family.branch, Map.level_in}
use Rattle.zdd_families.proofs.{MapLemmas.level_in-inner, Members.branch-cases, Members.branch-has_lo}
use Rattle.family_memory.specs.{declared.extents.Extent.Extent, Rests.HasUnitBelow, Rests.IsRest}
use Rattle.family_memory.specs.Memory.{Held, Has, IsSound, Went, family_in, map_of, word_family}
use Rattle.family_memory.specs.Kept.{AreExtents, IsAdded, no_extent}
use Rattle.family_memory.proofs.Adding.{went_added}
use Rattle.family_memory.proofs.After.{still, still_has, still_level}

-- ---- the parts of a node

module _ (held : Held) (level lo : ℕ) (hi : List (List ℕ)) (lower : level < level_in (map_of held) lo) where
  low_first : (bound : ℕ) (set : List ℕ) → level < bound → among (level ∷ set) level ≡ true
      → HasUnitBelow bound (level ∷ set)
  low_first bound set h first = (level, h, first)

  first_among : (set : List ℕ) → among (level ∷ set) level ≡ true
  first_among set = or_left (level == level) (among set level) (eq-eqb level level refl)

  -- the sets without the level are left
  pub rest_is_lo : Has held lo → IsRest held level (branch level (family_in held lo) hi) lo
  rest_is_lo has = record {
    has = has;
    above = lower;
    some = branch-has_lo level (family_in held lo) hi;
    others =
        λ set of_node. elim (branch-cases level (family_in held lo) hi set of_node) [
          | inl of_lo ↦ inl of_lo
          | inr with_x ↦ inr (subst (HasUnitBelow (level_in (map_of held) lo)) (sym with_x.1)
              (low_first (level_in (map_of held) lo) with_x.0 lower (first_among with_x.0)))
        ];
  }

  -- or what is left of these
  pub rest_beyond : {rest : ℕ} → IsRest held (level_in (map_of held) lo) (family_in held lo) rest
      → IsRest held level (branch level (family_in held lo) hi) rest
  rest_beyond {rest} is =
      let far : level < level_in (map_of held) rest = let h = is.above in omega (arith, h, lower) in
      record {
        has = is.has;
        above = far;
        some = λ set has. branch-has_lo level (family_in held lo) hi set (is.some set has);
        others =
            λ set of_node. elim (branch-cases level (family_in held lo) hi set of_node) [
              | inl of_lo ↦ is.others set of_lo
              | inr with_x ↦ inr (subst (HasUnitBelow (level_in (map_of held) rest)) (sym with_x.1)
                  (low_first (level_in (map_of held) rest) with_x.0 far (first_among with_x.0)))
            ];
      }

-- that of a node by that of its parts
pub rest_of_word : {held : Held} (word : ℕ) {level lo rest rest' : ℕ} → level ≡ level_of word → lo ≡ lo_of word
    → rest' ≡ rest
    → ((hi : List (List ℕ)) → IsRest held level (branch level (family_in held lo) hi) rest)
    → IsRest held (level_of word) (word_family held word) rest'
rest_of_word {held} word {level} {rest} same of_lo is_rest is =
    subst (IsRest held (level_of word) (word_family held word)) (sym is_rest)
    (subst (λ x. IsRest held x (branch x (family_in held (lo_of word)) (family_in held (hi_of word))) rest) same
    (subst (λ q. IsRest held level (branch level (family_in held q) (family_in held (hi_of word))) rest) of_lo
    (is (family_in held (hi_of word)))))

-- ---- a memory that has more

-- what was left still is
pub rest_still : {before after : Held} {level : ℕ} {f : List (List ℕ)} {rest : ℕ} → IsSound before → Went before after
    → IsRest before level f rest → IsRest after level f rest
rest_still {before} {after} {rest} sound went is =
    let same : family_in after rest ≡ family_in before rest = still sound went rest is.has in
    let at : level_in (map_of after) rest ≡ level_in (map_of before) rest = still_level sound went rest is.has in
    record {
      has = still_has sound went rest is.has;
      above = let h = is.above in omega (arith, at, h);
      some = λ set has. is.some set (subst (λ (q : List (List ℕ)). Contains q set) same has);
      others =
          λ set has. elim (is.others set has) [
            | inl there ↦ inl (subst (λ (q : List (List ℕ)). Contains q set) (sym same) there)
            | inr low ↦ inr (subst (λ n. HasUnitBelow n set) (sym at) low)
          ];
    }

module _ {held after : Held} {word r : ℕ} (extent : Extent) {extents : List Extent} (sound : IsSound held)
    (is : IsAdded held word after r) (here : r ≡ length held.words) (are : AreExtents held extents)
    (of_word : IsRest held (level_of word) (word_family held word) extent.rest) where
  went : Went held after
  went = went_added is

  added_word : map_of after r ≡ word
  added_word = ap (λ l. get_or l r 0) is.words ∙ get_or_push held.words word 0 r (sym here)

  rest_there : (q : ℕ) → 2 ≤ q → (there : q < length held.words)
      → IsRest after (level_in (map_of after) q) (family_in after q) (get_or extents q no_extent).rest
  rest_there q inner there =
      let rest = (get_or extents q no_extent).rest in
      subst (λ n. IsRest after n (family_in after q) rest) (sym (still_level sound went q there))
      (subst (λ f. IsRest after (level_in (map_of held) q) f rest) (sym (still sound went q there))
      (rest_still sound went (are.rests q inner there)))

  rest_here : 2 ≤ r → IsRest after (level_in (map_of after) r) (family_in after r) extent.rest
  rest_here inner =
      subst (λ n. IsRest after n (family_in after r) extent.rest)
      (sym (level_in-inner (map_of after) r inner ∙ ap level_of added_word))
      (subst (λ f. IsRest after (level_of word) f extent.rest) (sym is.family) (rest_still sound went of_word))

  pub rests_more : (q : ℕ) → 2 ≤ q → q < length held.words + 1
      → IsRest after (level_in (map_of after) q) (family_in after q)
      (get_or (extents ++ extent ∷ []) q no_extent).rest
  rests_more q inner has =
      elim (cases_lt q (length held.words)) [
        | inl there ↦
            let short : q < length extents = let e = are.count in omega (arith, e, there) in
            subst (λ (e : Extent). IsRest after (level_in (map_of after) q) (family_in after q) e.rest)
            (sym (get_or_append_left extents (extent ∷ []) no_extent q short)) (rest_there q inner there)
        | inr past ↦
            let at : r ≡ q = omega (arith, here, past, has) in
            let end : length extents ≡ q = let e = are.count in omega (arith, e, at, here) in
            subst (λ (e : Extent). IsRest after (level_in (map_of after) q) (family_in after q) e.rest)
            (sym (get_or_push extents extent no_extent q end))
            (subst (λ p. IsRest after (level_in (map_of after) p) (family_in after p) extent.rest) at
            (rest_here (omega (arith, inner, at))))
      ]

-- ---- one that was read

pub rest_read : {inside held : Held} {extents : List Extent} {n r : ℕ} {extent : Extent} → inside ≡ held → n ≡ r
    → 2 ≤ r → Has held r → AreExtents inside extents → extent ≡ get_or extents n extent
    → IsRest held (level_in (map_of held) r) (family_in held r) extent.rest
rest_read {inside} {extents} {n} {r} {extent} same e inner has are read =
    let there : Has inside r = subst (λ (h : Held). Has h r) (sym same) has in
    let short : n < length extents = let c = are.count in omega (arith, c, e, there) in
    let is : extent ≡ get_or extents r no_extent =
    get_or_read extents n extent short read no_extent ∙ ap (λ q. get_or extents q no_extent) e in
    subst (λ (h : Held). IsRest h (level_in (map_of h) r) (family_in h r) extent.rest) same
    (subst (λ (x : Extent). IsRest inside (level_in (map_of inside) r) (family_in inside r) x.rest) (sym is)
    (are.rests r inner there))
