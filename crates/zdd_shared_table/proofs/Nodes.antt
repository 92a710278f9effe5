-- What a sound seat's calls on one node give.
use Rattle.std.proofs.Common.{◌≡◌, ◌≢◌, ℕ, ◌+◌, ◌<◌, ◌≤◌, List, [], ◌∷◌, ◌++◌, sym, ◌∙◌, ap, subst, arith, Contains}
use Rattle.std.proofs.Common.{inl, inr, Option, Some, None, Result, Ok, Err, IfSome, IfNone}
use Rattle.std.proofs.lemmas.List.Elements.{Contains-push}
use Rattle.unit_sets.specs.Unit.{IsUnit}
use Rattle.zdd_words.specs.Word.{level_of, lo_of, hi_of}
use Rattle.zdd_families.specs.Family.{branch, IsAbove, first_unit, sets_with, sets_without}
use Rattle.zdd_families.specs.Map.{Knows, KnowsAs, IsNode, IsClosed, Grown, family}
use Rattle.zdd_families.proofs.MapLemmas.{family-node, lo_known, hi_known}
use Rattle.zdd_families.proofs.Canonical.{family-grown, level-above, first_unit-family, sets_without-family}
use Rattle.zdd_families.proofs.Canonical.{sets_with-family, lo_units, hi_units}
use Rattle.zdd_shared_table.specs.{Known.find, Search.HasEnded, Views.searched_all, declared.view.View.View}
use Rattle.zdd_shared_table.specs.Making.{LearnsWord, CountsRefused, NotesRefused, PassesSlots, FillsAtMostOne}
use Rattle.zdd_shared_table.specs.Seats.{TableId, Seated, IsSound, IsSoundView, seated}
use Rattle.zdd_shared_table.proofs.Maps.{find-front, find-stands}

-- a reference that is known and no terminal has a word
pub inner_known : (known : ℕ → ℕ) (r : ℕ) → Knows known r → 2 ≤ r → known r ≢ 0
inner_known known r (inl small) inner = absurd (omega arith)
inner_known known r (inr has) inner = has

-- the word of a node whose parts a closed map knows, above its level
pub asked_node : {known : ℕ → ℕ} {word level lo hi : ℕ} → IsClosed known → level_of word ≡ level → lo_of word ≡ lo
    → hi_of word ≡ hi → IsUnit level
    → Knows known lo → Knows known hi → hi ≢ 0 → IsAbove level (family known lo) → IsAbove level (family known hi)
    → IsNode known word
asked_node {known} {level} {lo} {hi} closed level_is lo_is hi_is unit knows_lo knows_hi filled lo_above hi_above =
    let P : ℕ → ℕ → Type 0 = λ x r. x < Rattle.zdd_families.specs.Map.level_in known r in
    let below : level < 4096 = let u = unit.1 in omega arith in
    let lo' : P level lo = level-above known level lo closed knows_lo below lo_above in
    let hi' : P level hi = level-above known level hi closed knows_hi below hi_above in
    record {
      unit = subst IsUnit (sym level_is) unit;
      lo_above = subst (λ (p : ℕ × ℕ). P p.0 p.1) (λ i. (sym level_is i, sym lo_is i)) lo';
      hi_above = subst (λ (p : ℕ × ℕ). P p.0 p.1) (λ i. (sym level_is i, sym hi_is i)) hi';
      filled = λ none. filled (sym hi_is ∙ none);
    }

-- a sound list has each shorter list's map
pub grown_sound : {size : ℕ} (pairs : List (ℕ × ℕ)) {more : List (ℕ × ℕ)} {asked gained : List ℕ}
    → IsSound size more asked gained
    → ((pair : ℕ × ℕ) → Contains pairs pair → Contains more pair) → Grown (find pairs) (find more)
grown_sound pairs sound within reference known =
    sound.agree reference (find pairs reference) (within (reference, find pairs reference)
    (find-stands pairs reference known))

-- a larger closed map knows the new reference as the branch of the parts' families
pub node_family : (old new : ℕ → ℕ) (r : ℕ) {word level lo hi : ℕ} → IsClosed old → IsClosed new → Grown old new
    → new r ≡ word → word ≢ 0 → level_of word ≡ level → lo_of word ≡ lo → hi_of word ≡ hi
    → Knows old lo → Knows old hi → KnowsAs new r (branch level (family old lo) (family old hi))
node_family old new r {level} {lo} {hi} closed closed' grown stands some level_is lo_is hi_is knows_lo knows_hi =
    let has : new r ≢ 0 = λ none. some (sym stands ∙ none) in
    let at : level_of (new r) ≡ level = ap level_of stands ∙ level_is in
    let l : family new (lo_of (new r)) ≡ family old lo =
    ap (λ k. family new k) (ap lo_of stands ∙ lo_is) ∙ family-grown old new lo closed closed' grown knows_lo in
    let h : family new (hi_of (new r)) ≡ family old hi =
    ap (λ k. family new k) (ap hi_of stands ∙ hi_is) ∙ family-grown old new hi closed closed' grown knows_hi in (
      inr has,
      family-node new r closed' has
          ∙ ap (λ x. branch x (family new (lo_of (new r))) (family new (hi_of (new r)))) at
          ∙ ap (λ f. branch level f (family new (hi_of (new r)))) l
          ∙ ap (λ f. branch level (family old lo) f) h,
    )

-- what the word of a known reference says, over the map before and after
pub record HasParts (before after : ℕ → ℕ) (r level lo hi : ℕ) : Type 0 where
  pub least : level ≡ first_unit (family before r)
  pub without : KnowsAs after lo (sets_without level (family before r))
  pub with_it : KnowsAs after hi (sets_with level (family before r))
  pub branches : family after r ≡ branch level (family after lo) (family after hi)
  pub filled : hi ≢ 0
  pub lo_above : IsAbove level (family after lo)
  pub hi_above : IsAbove level (family after hi)

own_parts : (known : ℕ → ℕ) (r : ℕ) → IsClosed known → known r ≢ 0
    → HasParts known known r (level_of (known r)) (lo_of (known r)) (hi_of (known r))
own_parts known r closed has =
    let node = (closed r has).1 in record {
      least = sym (first_unit-family known r closed has);
      without = (lo_known node, sym (sets_without-family known r closed has));
      with_it = (hi_known node, sym (sets_with-family known r closed has));
      branches = family-node known r closed has;
      filled = node.filled;
      lo_above = lo_units known (known r) closed node;
      hi_above = hi_units closed node;
    }

pub has_parts : {known before after : ℕ → ℕ} (r : ℕ) {word level lo hi : ℕ} → IsClosed known → known r ≢ 0
    → known ≡ before
    → known ≡ after → word ≡ known r → level ≡ level_of word → lo ≡ lo_of word → hi ≡ hi_of word
    → HasParts before after r level lo hi
has_parts {known} {after} r {level} {lo} {hi} closed has is is' at level_is lo_is hi_is =
    let own = own_parts known r closed has in
    let one : HasParts known known r level lo hi =
    subst (λ (p : ℕ × ℕ × ℕ). HasParts known known r p.0 p.1 p.2)
    (λ i. (sym (level_is ∙ ap level_of at) i, sym (lo_is ∙ ap lo_of at) i, sym (hi_is ∙ ap hi_of at) i)) own in
    subst (λ b. HasParts b after r level lo hi) is (subst (λ a. HasParts known a r level lo hi) is' one)

-- a search that ended knows the slot's reference beside what was known
pub known_ended : (word slot : ℕ) (v : View) {w : View} → HasEnded word slot v w
    → w.known ≡ v.known ++ (slot + 2, word) ∷ []
known_ended word slot v (inl is) = ap (λ u. u.known) is
known_ended word slot v (inr is) = ap (λ u. u.known) is

pub grown_ended : (word slot : ℕ) (v : View) {w : View} → HasEnded word slot v w → Grown (find v.known) (find w.known)
grown_ended word slot v end =
    subst (λ l. Grown (find v.known) (find l)) (sym (known_ended word slot v end))
    (find-front v.known ((slot + 2, word) ∷ []))

pub node_ended : {word : ℕ} (slot : ℕ) {level lo hi : ℕ} (v : View) {w : View} → HasEnded word slot v w → IsSoundView v
    → IsSoundView w
    → word ≢ 0
    → level_of word ≡ level → lo_of word ≡ lo → hi_of word ≡ hi → Knows (find v.known) lo → Knows (find v.known) hi
    → KnowsAs (find w.known) (slot + 2) (branch level (family (find v.known) lo) (family (find v.known) hi))
node_ended {word} slot v {w} end sound sound' some level_is lo_is hi_is knows_lo knows_hi =
    let at : find w.known (slot + 2) ≡ word = sound'.agree (slot + 2) word
    (subst (λ (l : List (ℕ × ℕ)). Contains l (slot + 2, word)) (sym (known_ended word slot v end))
    (Contains-push v.known (slot + 2, word))) in
    node_family (find v.known) (find w.known) (slot + 2) sound.closed sound'.closed
    (grown_ended word slot v end) at some level_is lo_is hi_is knows_lo knows_hi

-- what the seat knows and counts after a search that has this answer
pub record HasSearched {E : Type 0} (slots word : ℕ) (answer : Result ℕ E) (old new : Seated) : Type 0 where
  pub known : LearnsWord word answer old new
  pub fulls : CountsRefused answer old new
  pub missed : NotesRefused word answer old new
  pub passed : PassesSlots slots word answer new
  pub fills : FillsAtMostOne answer old new
  pub share : new.share ≡ old.share

pub searched-found : {E : Type 0} (slots word slot : ℕ) (id id' : TableId) (v : View) {w : View}
    → HasEnded word slot v w
    → HasSearched {E = E} slots word (Ok (slot + 2)) (seated id v) (seated id' w)
searched-found slots word slot id id' v (inl is) = record {
  known = ap (λ u. u.known) is;
  fulls = ap (λ u. u.fulls) is;
  missed = ap (λ u. u.missed) is;
  passed = tt;
  fills = inl (ap (λ u. u.fills) is);
  share = ap (λ u. u.share) is;
}
searched-found slots word slot id id' v (inr is) = record {
  known = ap (λ u. u.known) is;
  fulls = ap (λ u. u.fulls) is;
  missed = ap (λ u. u.missed) is;
  passed = tt;
  fills = inr (ap (λ u. u.fills) is);
  share = ap (λ u. u.share) is;
}

pub searched-none : {E : Type 0} {slots : ℕ} (word : ℕ) (e : E) (id id' : TableId) (v : View) {w : View}
    → v.size ≡ slots
    → w ≡ searched_all word v → HasSearched {E = E} slots word (Err e) (seated id v) (seated id' w)
searched-none word e id id' v sized is = record {
  known = ap (λ u. u.known) is;
  fulls = ap (λ u. u.fulls) is;
  missed = ap (λ u. u.missed) is;
  passed = ap (λ u. u.probe) is ∙ ap (λ n. record { word = word; passed = n }) sized;
  fills = ap (λ u. u.fills) is;
  share = ap (λ u. u.share) is;
}

-- any search leaves the table's size and the share
pub searched-size : (word size : ℕ) (found : Option ℕ) (v w : View)
    → IfSome found (λ slot. (slot < size) × HasEnded word slot v w) → IfNone found (w ≡ searched_all word v)
    → (w.size ≡ v.size) × (w.share ≡ v.share)
searched-size word size None v w end all = (ap (λ u. u.size) all, ap (λ u. u.share) all)
searched-size word size (Some slot) v w end all = elim end.1 [
  | inl is ↦ (ap (λ u. u.size) is, ap (λ u. u.share) is)
  | inr is ↦ (ap (λ u. u.size) is, ap (λ u. u.share) is)
]
