-- A node that is added at the end of the words.
use Rattle.std.proofs.Common.{◌≡◌, ◌≢◌, ℕ, ◌+◌, ◌<◌, ◌≤◌, ◌⊎◌, List, [], ◌∷◌, ◌++◌, length, refl, sym, ◌∙◌, ap, subst}
use Rattle.std.proofs.Common.{inl, inr, arith, length-append, Result, Ok, Err, MatchResult}
use Rattle.std.proofs.lemmas.Bool.{cases_lt}
use Rattle.std.proofs.lemmas.List.{get_or_append_left, get_or_past, get_or_push}
use Rattle.event_counts.proofs.CountLemmas.{next_count-steady, next_count-fits}
use Rattle.unit_sets.specs.Unit.{IsUnit}
use Rattle.zdd_words.specs.Word.{level_of, lo_of, hi_of}
use Rattle.zdd_words.proofs.WordLemmas.{level_of-zero}
use Rattle.zdd_families.specs.{Family.IsAbove, Family.branch, Antichains.IsAntichain}
use Rattle.zdd_families.specs.Map.{IsNode, IsClosed, Grown, level_in}
use Rattle.zdd_families.proofs.MapLemmas.{IsNode-grown, family-node, lo_known, hi_known}
use Rattle.zdd_families.proofs.Canonical.{family-grown}
use Rattle.family_memory.specs.Memory.{Held, Has, IsSound, IsUsedUp, Went, family_in, map_of, word_family}
use Rattle.kept_answers.specs.declared.answers.Entry.{Entry}
use Rattle.family_memory.specs.declared.extents.Extent.{Extent}
use Rattle.family_memory.specs.Kept.{AreExtents, IsAdded, KeepsNodes, refusing}
use Rattle.family_memory.proofs.{Entries.all_told, After.knows, After.level_above}

abbrev pub with_word : Held → ℕ → Held
with_word held word = record { words = held.words ++ word ∷ []; room = held.room; refused = held.refused }

module _ (held : Held) (word : ℕ) (sound : IsSound held) (node : IsNode (map_of held) word)
    (antichain : IsAntichain (word_family held word)) where
  abbrev more : Held
  more = with_word held word

  longer : length more.words ≡ length held.words + 1
  longer = length-append held.words (word ∷ [])

  last : map_of more (length held.words) ≡ word
  last = get_or_push held.words word 0 (length held.words) refl

  absent : (r : ℕ) → length held.words ≤ r → map_of held r ≡ 0
  absent r past = get_or_past held.words r 0 past

  earlier : (r : ℕ) → Has held r → map_of more r ≡ map_of held r
  earlier r has = get_or_append_left held.words (word ∷ []) 0 r has

  grown : Grown (map_of held) (map_of more)
  grown r has =
      elim (cases_lt r (length held.words)) [
        | inl there ↦ earlier r there
        | inr past ↦ absurd (has (absent r past))
      ]

  word_filled : word ≢ 0
  word_filled none =
      let unit = node.unit.0 in let e : level_of word ≡ 0 = ap level_of none ∙ level_of-zero in omega (arith, e, unit)

  more_cases : (r : ℕ) → Has more r → (Has held r) ⊎ (r ≡ length held.words)
  more_cases r has =
      elim (cases_lt r (length held.words)) [
        | inl there ↦ inl there
        | inr past ↦ inr (let e = longer in omega arith)
      ]

  has_word : (r : ℕ) → map_of more r ≢ 0 → Has more r
  has_word r has =
      elim (cases_lt r (length more.words)) [
        | inl there ↦ there
        | inr past ↦ absurd (has (get_or_past more.words r 0 past))
      ]

  closed : IsClosed (map_of more)
  closed r has =
      elim (more_cases r (has_word r has)) [
        | inl there ↦
            let same : map_of more r ≡ map_of held r = earlier r there in
            let both = sound.closed r (λ none. has (same ∙ none)) in (
              both.0,
              subst (IsNode (map_of more)) (sym same)
                  (IsNode-grown (map_of held) (map_of more) (map_of held r) grown both.1),
            )
        | inr here ↦ (
          let few = sound.terminals in omega arith,
          subst (IsNode (map_of more)) (sym (ap (map_of more) here ∙ last))
              (IsNode-grown (map_of held) (map_of more) word grown node),
        )
      ]

  same_family : (r : ℕ) → Has held r → family_in more r ≡ family_in held r
  same_family r has = family-grown (map_of held) (map_of more) r sound.closed closed grown (knows r sound has)

  new_family : family_in more (length held.words) ≡ word_family held word
  new_family =
      family-node (map_of more) (length held.words) closed (λ none. word_filled (sym last ∙ none))
      ∙ ap (λ w. branch (level_of w) (family_in more (lo_of w)) (family_in more (hi_of w))) last
      ∙ ap (λ q. branch (level_of word) q (family_in more (hi_of word)))
      (family-grown (map_of held) (map_of more) (lo_of word) sound.closed closed grown (lo_known node))
      ∙ ap (λ q. branch (level_of word) (family_in held (lo_of word)) q)
      (family-grown (map_of held) (map_of more) (hi_of word) sound.closed closed grown (hi_known node))

  filled : (r : ℕ) → 2 ≤ r → Has more r → map_of more r ≢ 0
  filled r inner has none =
      elim (more_cases r has) [
        | inl there ↦ sound.filled r inner there (sym (earlier r there) ∙ none)
        | inr here ↦ word_filled (sym (ap (map_of more) here ∙ last) ∙ none)
      ]

  antichains : (r : ℕ) → Has more r → IsAntichain (family_in more r)
  antichains r has =
      elim (more_cases r has) [
        | inl there ↦ subst IsAntichain (sym (same_family r there)) (sound.antichains r there)
        | inr here ↦ subst IsAntichain (sym (ap (family_in more) here ∙ new_family)) antichain
      ]

  pub added : length held.words < held.room + 2 → IsAdded held word more (length held.words)
  added room = record {
    words = refl;
    room = refl;
    refused = refl;
    has = let e = longer in omega arith;
    family = new_family;
    keeps = grown;
    sound = record {
      terminals = let e = longer in let few = sound.terminals in omega arith;
      fits = let e = longer in omega arith;
      closed = closed;
      filled = filled;
      antichains = antichains;
      counted = sound.counted;
    };
  }

-- a level and parts above it make a node
pub node_of : {held : Held} {level lo hi word : ℕ} → IsSound held → IsUnit level → Has held lo → Has held hi → hi ≢ 0
    → IsAbove level (family_in held lo) → IsAbove level (family_in held hi) → level_of word ≡ level → lo_of word ≡ lo
    → hi_of word ≡ hi → IsNode (map_of held) word
node_of {held} {level} {lo} {hi} {word} sound unit has_lo has_hi filled above above' e f g =
    let h : level < level_in (map_of held) lo =
    level_above level lo sound has_lo (let u = unit.1 in omega arith) above in
    let k : level < level_in (map_of held) hi =
    level_above level hi sound has_hi (let u = unit.1 in omega arith) above' in
    record {
      unit = subst IsUnit (sym e) unit;
      lo_above =
          subst (λ q. level_of word < level_in (map_of held) q) (sym f)
          (subst (λ x. x < level_in (map_of held) lo) (sym e) h);
      hi_above =
          subst (λ q. level_of word < level_in (map_of held) q) (sym g)
          (subst (λ x. x < level_in (map_of held) hi) (sym e) k);
      filled = λ none. filled (sym g ∙ none);
    }

-- the family of such a word
pub word_is : (held : Held) {level lo hi : ℕ} (word : ℕ) → level_of word ≡ level → lo_of word ≡ lo → hi_of word ≡ hi
    → word_family held word ≡ branch level (family_in held lo) (family_in held hi)
word_is held {level} {lo} word e f g =
    ap (λ x. branch x (family_in held (lo_of word)) (family_in held (hi_of word))) e
    ∙ ap (λ q. branch level (family_in held q) (family_in held (hi_of word))) f
    ∙ ap (λ q. branch level (family_in held lo) (family_in held q)) g

-- a reference with a word stands for the word's family
pub found_is : {held : Held} (r : ℕ) {word : ℕ} → IsSound held → map_of held r ≡ word → word ≢ 0
    → family_in held r ≡ word_family held word
found_is {held} r sound same filled =
    family-node (map_of held) r sound.closed (λ none. filled (sym same ∙ none))
    ∙ ap (λ w. branch (level_of w) (family_in held (lo_of w)) (family_in held (hi_of w))) same

-- ---- what the fields keep when a node is added

pub went_added : {before : Held} {word : ℕ} {after : Held} {r : ℕ} → IsAdded before word after r → Went before after
went_added {before} {word} is = record {
  longer = let e = ap length is.words ∙ length-append before.words (word ∷ []) in omega (arith, e);
  keeps = is.keeps;
  room = is.room;
  steady = let e = is.refused in omega (arith, e);
  sound = is.sound;
}

module _ {inside held : Held} {word : ℕ} (same : inside ≡ held) (sound : IsSound inside)
    (node : IsNode (map_of held) word) (antichain : IsAntichain (word_family held word))
    (room : length inside.words < inside.room + 2) where
  added_inside : IsAdded inside word (with_word inside word) (length inside.words)
  added_inside =
      added inside word sound (subst (λ (h : Held). IsNode (map_of h) word) (sym same) node)
      (subst (λ (h : Held). IsAntichain (word_family h word)) (sym same) antichain) room

  -- a memory that has its fields
  as_added : (after : Held) → after.words ≡ inside.words ++ word ∷ [] → after.room ≡ inside.room
      → after.refused ≡ inside.refused → IsAdded inside word after (length inside.words)
  as_added after words as_before as_often =
      subst (λ l. IsAdded inside word (record { words = l; room = after.room; refused = after.refused })
      (length inside.words)) (sym words)
      (subst (λ n. IsAdded inside word (record {
        words = inside.words ++ word ∷ [];
        room = n;
        refused = after.refused;
      }) (length inside.words)) (sym as_before)
      (subst (λ n. IsAdded inside word (record {
        words = inside.words ++ word ∷ [];
        room = inside.room;
        refused = n;
      }) (length inside.words)) (sym as_often) added_inside))

  pub added_to : {after : Held} {r : ℕ} → after.words ≡ inside.words ++ word ∷ [] → after.room ≡ inside.room
      → after.refused ≡ inside.refused → r ≡ length inside.words → IsAdded held word after r
  added_to {after} {r} words as_before as_often at =
      subst (λ (h : Held). IsAdded h word after r) same
      (subst (IsAdded inside word after) (sym at) (as_added after words as_before as_often))

  pub kept_added : {after : Held} {capacity capacity' : ℕ} {entries : List Entry}
      {extents extents' : List Extent} {taken taken' : ℕ} → after.words ≡ inside.words ++ word ∷ []
      → after.room ≡ inside.room → after.refused ≡ inside.refused
      → KeepsNodes inside capacity entries extents taken → capacity ≤ capacity'
      → (IsAdded inside word after (length inside.words) → AreExtents after extents') → taken ≤ taken'
      → KeepsNodes after capacity' entries extents' taken'
  kept_added {after} {entries} {taken} words as_before as_often kept more are
      more' =
      let is : IsAdded inside word after (length inside.words) = as_added after words as_before as_often in
      record {
        sound = is.sound;
        few = let h = kept.few in omega arith;
        taken = let h = kept.taken in omega arith;
        told = all_told entries sound (went_added is) kept.told;
        reach = are is;
        reach_taken = let h = kept.reach_taken in omega arith;
      }

-- ---- what they keep when a node is refused

pub sound_refusing : {held : Held} → IsSound held → IsSound (refusing held)
sound_refusing {held} sound = record {
  terminals = sound.terminals;
  fits = sound.fits;
  closed = sound.closed;
  filled = sound.filled;
  antichains = sound.antichains;
  counted = next_count-fits held.refused;
}

pub went_refusing : {held : Held} → IsSound held → Went held (refusing held)
went_refusing {held} sound = record {
  longer = omega arith;
  keeps = λ r has. refl;
  room = refl;
  steady = next_count-steady held.refused sound.counted;
  sound = sound_refusing sound;
}

pub kept_refusing : {held after : Held} {capacity : ℕ} {entries : List Entry} {extents : List Extent} {taken : ℕ}
    → after ≡ refusing held → KeepsNodes held capacity entries extents taken
    → KeepsNodes after capacity entries extents taken
kept_refusing {capacity} {entries} {extents} {taken} same kept =
    subst (λ (h : Held). KeepsNodes h capacity entries extents taken) (sym same) (record {
      sound = sound_refusing kept.sound;
      few = kept.few;
      taken = kept.taken;
      told = all_told entries kept.sound (went_refusing kept.sound) kept.told;
      reach = record {
        count = kept.reach.count;
        each = kept.reach.each;
        rests =
            λ r inner has.
            let is = kept.reach.rests r inner has in
            record { has = is.has; above = is.above; some = is.some; others = is.others };
      };
      reach_taken = kept.reach_taken;
    })

-- both answers leave the memory sound
pub sound_asked : {E : Type 0} {before after : Held} (word : ℕ) (result : Result ℕ E) → IsSound before
    → MatchResult result (λ r. IsAdded before word after r) (λ _. (after ≡ refusing before) × IsUsedUp before)
    → IsSound after
sound_asked word (Ok r) sound is = is.sound
sound_asked word (Err e) sound is = subst IsSound (sym is.0) (sound_refusing sound)
