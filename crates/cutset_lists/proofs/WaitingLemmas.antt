-- How sets wait at their units, and how those within another are found.
use Rattle.std.specs.Prelude.{◌≡◌, ◌≢◌, ℕ, zero, suc, ◌+◌, ◌<◌, ◌≤◌, Bool, true, false, ◌&&◌, ◌==◌, nat_lt}
use Rattle.std.specs.Prelude.{List, [], ◌∷◌, ◌++◌, length, take, replicate, All, Contains, get_or, slice_set, map}
use Rattle.std.specs.{List.list_any, Cmp.Lexicographic.slice_cmp, Ordering.nat_cmp}
use Rattle.std.specs.{declared.cmp.Ordering.TheVariants.Less}
use Rattle.std.proofs.Common.{refl, sym, ◌∙◌, ap, subst, inl, inr, arith, length-append}
use Rattle.std.proofs.lemmas.Bool.{or_from, and_parts, and_right, cases_lt, cases_eq}
use Rattle.std.proofs.lemmas.List.{get_or_default, take_more, take_all, get_or-take, length-take, get_or_append_left}
use Rattle.std.proofs.lemmas.List.{get_or-map}
use Rattle.std.proofs.lemmas.List.{get_or-set_same, get_or-set_other}
use Rattle.std.proofs.lemmas.List.Folds.{list_any-append, Any-from_list_any, list_any-from_Any}
use Rattle.std.proofs.lemmas.List.Elements.{All-push, All-nil, All-weaker, All-contains, Contains-get_or}
use Rattle.std.proofs.lemmas.List.Elements.{Contains-append_left, Contains-push}
use Rattle.unit_sets.specs.{UnitList.among, UnitList.is_within, CutOrder.cut_cmp, CutOrder.IsInCutOrder}
use Rattle.unit_sets.proofs.UnitListLemmas.{Contains-from_among}
use Rattle.std.proofs.{lemmas.Map.Keys.Less-from_sorted, lemmas.Bool.Decides.nat_tests}
use Rattle.cutset_lists.specs.{declared.waiting.Waiter.Waiter, declared.waiting.Waiting.Waiting}
use Rattle.cutset_lists.specs.Sets.{AreAlike, is_short_within, is_smaller_within, IsMinimalFrom}
use Rattle.cutset_lists.specs.Waiting.{AreReady, AreWaiting, AreFilled, IsWaiter, Waits, set_at, waiters_at}
use Rattle.cutset_lists.proofs.SetLemmas.{same_bool}
use Rattle.cutset_lists.proofs.MinimalLemmas.{all_at, size_of_less, none_larger}

-- ---- who waits

nobody : (units unit : ℕ) → get_or (replicate {A = List Waiter} units []) unit [] ≡ []
nobody zero unit = refl
nobody (suc units) zero = refl
nobody (suc units) (suc unit) = nobody units unit

pub none_wait : (units : ℕ) {at : List (List Waiter)} → at ≡ replicate units [] → {sets : List (List ℕ)}
    → AreWaiting sets 0 at
none_wait units none {sets} = record {
  inside = omega arith;
  known =
      λ unit. subst (All (IsWaiter sets 0)) (sym (ap (λ (l : List (List Waiter)). get_or l unit []) none
      ∙ nobody units unit)) (All-nil (IsWaiter sets 0));
  placed = λ place below. absurd (omega arith);
}

known_more : (sets : List (List ℕ)) (count : ℕ) (waiters : List Waiter) → All (IsWaiter sets count) waiters
    → All (IsWaiter sets (count + 1)) waiters
known_more sets count waiters known =
    All-weaker (IsWaiter sets count) (IsWaiter sets (count + 1))
    (λ waiter is. record { inside = let low = is.inside in omega arith; sign = is.sign }) waiters known

-- the next set waits at one of its units
module _ {sets : List (List ℕ)} {count : ℕ} {at new : List (List Waiter)} (home : ℕ) (waiter : Waiter)
    (inside : count < length sets) (room : home < length at)
    (of_set : among (set_at sets count) home ≡ true) (sign : among (set_at sets count) waiter.sign ≡ true)
    (place : waiter.place ≡ count)
    (is : new ≡ slice_set at home (waiters_at at home ++ waiter ∷ [])) (before : AreWaiting sets count at) where
  here : waiters_at new home ≡ waiters_at at home ++ waiter ∷ []
  here =
      ap (λ (l : List (List Waiter)). get_or l home []) is
      ∙ get_or-set_same at home (waiters_at at home ++ waiter ∷ []) [] room

  elsewhere : {unit : ℕ} → unit ≢ home → waiters_at new unit ≡ waiters_at at unit
  elsewhere {unit} other =
      ap (λ (l : List (List Waiter)). get_or l unit []) is
      ∙ get_or-set_other at home unit (waiters_at at home ++ waiter ∷ []) [] other

  is_waiter : IsWaiter sets (count + 1) waiter
  is_waiter = record {
    inside = omega arith;
    sign = subst (λ (p : ℕ). among (set_at sets p) waiter.sign ≡ true) (sym place) sign;
  }

  known_now : (unit : ℕ) → All (IsWaiter sets (count + 1)) (waiters_at new unit)
  known_now unit =
      elim (cases_eq unit home) [
        | inl same ↦ subst (λ (u : ℕ). All (IsWaiter sets (count + 1)) (waiters_at new u)) (sym same)
            (subst (All (IsWaiter sets (count + 1))) (sym here)
            (All-push (IsWaiter sets (count + 1)) (waiters_at at home) waiter
            (known_more sets count (waiters_at at home) (before.known home)) is_waiter))
        | inr other ↦ subst (All (IsWaiter sets (count + 1))) (sym (elsewhere other))
            (known_more sets count (waiters_at at unit) (before.known unit))
      ]

  still_there : (unit : ℕ) (old : Waiter) → Contains (waiters_at at unit) old → Contains (waiters_at new unit) old
  still_there unit old there =
      elim (cases_eq unit home) [
        | inl same ↦ subst (λ (u : ℕ). Contains (waiters_at new u) old) (sym same)
            (subst (λ (l : List Waiter). Contains l old) (sym here)
            (Contains-append_left (waiters_at at home) (waiter ∷ []) old
            (subst (λ (u : ℕ). Contains (waiters_at at u) old) same there)))
        | inr other ↦ subst (λ (l : List Waiter). Contains l old) (sym (elsewhere other)) there
      ]

  waits_still : {p : ℕ} → Waits sets at p → Waits sets new p
  waits_still old = record {
    unit = old.unit;
    of_set = old.of_set;
    waiter = old.waiter;
    there = still_there old.unit old.waiter old.there;
    for_set = old.for_set;
  }

  waits_now : Waits sets new count
  waits_now = record {
    unit = home;
    of_set = of_set;
    waiter = waiter;
    there = subst (λ (l : List Waiter). Contains l waiter) (sym here) (Contains-push (waiters_at at home) waiter);
    for_set = place;
  }

  pub one_more : AreWaiting sets (count + 1) new
  one_more = record {
    inside = omega arith;
    known = known_now;
    placed = λ p below. elim (cases_lt p count) [
      | inl lower ↦ waits_still (before.placed p lower)
      | inr last ↦ let e : count ≡ p = omega arith in subst (Waits sets new) e waits_now
    ];
  }

-- the same, of values as the code has them
pub one_more-step : {sets : List (List ℕ)} {count : ℕ} {at : List (List Waiter)} {home place : ℕ} (waiter : Waiter)
    {set : List ℕ} {found pushed : List Waiter}
    → count < length sets → place < length at → place ≡ home → set ≡ get_or sets count [] → among set home ≡ true
    → among set waiter.sign ≡ true → waiter.place ≡ count
    → found ≡ get_or at place found → pushed ≡ found ++ waiter ∷ [] → AreWaiting sets count at
    → AreWaiting sets (count + 1) (slice_set at place pushed)
one_more-step {sets} {count} {at} {home} {place} waiter {found} inside room same set_is of_set sign at_count found_is
    pushed_is before =
    let there : found ≡ waiters_at at place = found_is ∙ get_or_default at place found [] room in
    one_more place waiter inside room (subst (λ (u : ℕ). among (set_at sets count) u ≡ true) (sym same)
    (subst (λ (s : List ℕ). among s home ≡ true) set_is of_set))
    (subst (λ (s : List ℕ). among s waiter.sign ≡ true) set_is sign)
    at_count (ap (λ (l : List Waiter). slice_set at place l)
    (pushed_is ∙ ap (λ (l : List Waiter). l ++ waiter ∷ []) there)) before

-- with one set more in the list the same wait
module _ {sets : List (List ℕ)} {count : ℕ} {at : List (List Waiter)} (set : List ℕ)
    (before : AreWaiting sets count at) where
  same_set_at : (place : ℕ) → place < count → set_at (sets ++ set ∷ []) place ≡ set_at sets place
  same_set_at place below = let low = before.inside in get_or_append_left sets (set ∷ []) [] place (omega arith)

  pub longer_list : AreWaiting (sets ++ set ∷ []) count at
  longer_list = record {
    inside = let low = before.inside in omega (arith, length-append sets (set ∷ []));
    known = λ unit. All-weaker (IsWaiter sets count) (IsWaiter (sets ++ set ∷ []) count)
        (λ waiter is. record {
          inside = is.inside;
          sign =
              subst (λ (s : List ℕ). among s waiter.sign ≡ true) (sym (same_set_at waiter.place is.inside)) is.sign;
        })
        (waiters_at at unit) (before.known unit);
    placed = λ place below. let old = before.placed place below in record {
      unit = old.unit;
      of_set = subst (λ (s : List ℕ). among s old.unit ≡ true) (sym (same_set_at place below)) old.of_set;
      waiter = old.waiter;
      there = old.there;
      for_set = old.for_set;
    };
  }

-- ---- who is found

pub some_holds : {X : Type 0} (p : X → Bool) (xs : List X) (x : X) → Contains xs x → p x ≡ true → list_any p xs ≡ true
some_holds p xs x (k, short, same) holds = list_any-from_Any p xs (k, x, short, same, holds)

-- the units in which two sets agree
pub within_alike : (set other smaller : List ℕ) → AreAlike set other → is_within set smaller ≡ is_within other smaller
within_alike set other [] alike = refl
within_alike set other (first ∷ others) alike =
    let head = alike first in
    let tail = within_alike set other others alike in
    cc

-- a set without the sign of another does not have it within
pub no_sign : (set smaller : List ℕ) (sign : ℕ) → among smaller sign ≡ true → among set sign ≡ false
    → is_within set smaller ≡ false
no_sign set smaller sign there missing = go (is_within set smaller) refl
  where
    go : (b : Bool) → is_within set smaller ≡ b → b ≡ false
    go false is = refl
    go true is = let found = all_at (among set) smaller sign is there in absurd cc

module _ (sets : List (List ℕ)) (count : ℕ) (at : List (List Waiter)) (marked set : List ℕ) (size : ℕ)
    (alike : AreAlike marked set) (before : AreWaiting sets count at) where
  abbrev pub finds_at : ℕ → Bool
  finds_at unit =
      list_any (λ (waiter : Waiter). is_short_within size marked (set_at sets waiter.place)) (waiters_at at unit)

  short_alike : (smaller : List ℕ) → is_short_within size marked smaller ≡ is_short_within size set smaller
  short_alike smaller = ap (λ b. nat_lt (length smaller) size && b) (within_alike marked set smaller alike)

  found_is_there : list_any finds_at set ≡ true → list_any (is_short_within size set) (take count sets) ≡ true
  found_is_there found =
      let (k, unit, short, same, at_unit) = Any-from_list_any finds_at set found in
      let (j, waiter, inner, is, holds) =
      Any-from_list_any (λ (w : Waiter). is_short_within size marked (set_at sets w.place)) (waiters_at at unit)
      at_unit in
      let known : IsWaiter sets count waiter =
      All-contains (IsWaiter sets count) (waiters_at at unit) waiter (before.known unit) (j, inner, is) in
      let low = known.inside in
      let all = before.inside in
      let here : waiter.place < length (take count sets) = omega (arith, length-take {A = List ℕ}) in
      some_holds (is_short_within size set) (take count sets) (set_at sets waiter.place)
      (subst (λ (s : List ℕ). Contains (take count sets) s) (get_or-take count sets waiter.place [] low)
      (Contains-get_or (take count sets) waiter.place [] here))
      (sym (short_alike (set_at sets waiter.place)) ∙ holds)

  there_is_found : list_any (is_short_within size set) (take count sets) ≡ true → list_any finds_at set ≡ true
  there_is_found some =
      let (place, smaller, short, same, holds) = Any-from_list_any (is_short_within size set) (take count sets) some in
      let low : place < count = omega (arith, length-take {A = List ℕ}) in
      let is : set_at sets place ≡ smaller =
      sym (get_or-take count sets place [] low) ∙ sym (get_or_default (take count sets) place smaller [] short)
      ∙ same in
      let waits : Waits sets at place = before.placed place low in
      let smaller_there : is_short_within size set (set_at sets place) ≡ true =
      subst (λ (s : List ℕ). is_short_within size set s ≡ true) (sym is) holds in
      let inside =
      (and_parts (nat_lt (length (set_at sets place)) size) (is_within set (set_at sets place)) smaller_there).1 in
      let unit_in : among set waits.unit ≡ true =
      all_at (among set) (set_at sets place) waits.unit inside waits.of_set in
      some_holds finds_at set waits.unit (Contains-from_among set waits.unit unit_in)
      (some_holds (λ (w : Waiter). is_short_within size marked (set_at sets w.place)) (waiters_at at waits.unit)
      waits.waiter waits.there
      (subst (λ (p : ℕ). is_short_within size marked (set_at sets p) ≡ true) (sym waits.for_set)
      (short_alike (set_at sets place) ∙ smaller_there)))

  pub found_among_waiting : list_any finds_at set ≡ list_any (is_short_within size set) (take count sets)
  found_among_waiting =
      same_bool (list_any finds_at set) (list_any (is_short_within size set) (take count sets)) found_is_there
      there_is_found

-- ---- the same, of values as the code has them

pub sign_missing : (marked smaller : List ℕ) (size sign : ℕ) → among smaller sign ≡ true → among marked sign ≡ false
    → is_short_within size marked smaller ≡ false
sign_missing marked smaller size sign there missing =
    and_right (nat_lt (length smaller) size) (is_within marked smaller) (no_sign marked smaller sign there missing)

-- those who wait are sets of the list
pub in_list : {sets : List (List ℕ)} {count : ℕ} {at : List (List Waiter)} (unit : ℕ) → AreWaiting sets count at
    → All (IsWaiter sets (length sets)) (waiters_at at unit)
in_list {sets} {count} {at} unit before =
    All-weaker (IsWaiter sets count) (IsWaiter sets (length sets))
    (λ waiter is. record { inside = let low = is.inside in let all = before.inside in omega arith; sign = is.sign })
    (waiters_at at unit) (before.known unit)

pub found_waiters : {sets : List (List ℕ)} {count : ℕ} {at : List (List Waiter)} (place : ℕ)
    {found waiters : List Waiter}
    → AreWaiting sets count at → place < length at → found ≡ get_or at place found → waiters ≡ found
    → All (IsWaiter sets (length sets)) waiters
found_waiters {sets} {at} place {found} before room found_is waiters_are =
    subst (All (IsWaiter sets (length sets))) (sym (waiters_are ∙ found_is ∙ get_or_default at place found [] room))
    (in_list place before)

-- a unit where one is found
pub finds-some : {sets : List (List ℕ)} {count : ℕ} {at : List (List Waiter)} (marked set : List ℕ)
    (size : ℕ) {unit place : ℕ} (i d : ℕ) {waiters found : List Waiter}
    → AreWaiting sets count at → AreAlike marked set → i < length set → unit ≡ get_or set i d → place ≡ unit
    → place < length at → found ≡ get_or at place found → waiters ≡ found
    → list_any (λ (waiter : Waiter). is_short_within size marked (set_at sets waiter.place)) waiters ≡ true
    → list_any (is_short_within size set) (take count sets) ≡ true
finds-some {sets} {count} {at} marked set size {unit} {place} i d {waiters} {found} before alike short is same room
    found_is
    waiters_are holds =
    let here : waiters ≡ waiters_at at unit =
    waiters_are ∙ found_is ∙ get_or_default at place found [] room ∙ ap (waiters_at at) same in
    let at_unit : finds_at sets count at marked set size alike before unit ≡ true =
    subst (λ (l : List Waiter). list_any (λ (waiter : Waiter). is_short_within size marked
    (set_at sets waiter.place)) l ≡ true) here holds in
    sym (found_among_waiting sets count at marked set size alike before)
    ∙ some_holds (finds_at sets count at marked set size alike before) set unit
    (subst (λ (u : ℕ). Contains set u) (sym is) (Contains-get_or set i d short)) at_unit

-- none is found at the first units
abbrev pub NoneAt : List (List ℕ) → List (List Waiter) → List ℕ → ℕ → List ℕ → ℕ → Type 0
NoneAt sets at marked size set i =
    list_any (λ (unit : ℕ). list_any (λ (waiter : Waiter). is_short_within size marked (set_at sets waiter.place))
    (waiters_at at unit)) (take i set) ≡ false

pub NoneAt-more : (sets : List (List ℕ)) (at : List (List Waiter)) (marked set : List ℕ) (size : ℕ) {unit place : ℕ}
    (i d : ℕ)
    {waiters found : List Waiter}
    → i < length set → unit ≡ get_or set i d → place ≡ unit → place < length at → found ≡ get_or at place found
    → waiters ≡ found
    → list_any (λ (waiter : Waiter). is_short_within size marked (set_at sets waiter.place)) waiters ≡ false
    → NoneAt sets at marked size set i → NoneAt sets at marked size set (i + 1)
NoneAt-more sets at marked set size {place} i d {waiters} {found} short is same room found_is waiters_are none before =
    let here : waiters ≡ waiters_at at (get_or set i d) =
    waiters_are ∙ found_is ∙ get_or_default at place found [] room ∙ ap (waiters_at at) (same ∙ is) in
    let p : ℕ → Bool =
    λ (u : ℕ). list_any (λ (waiter : Waiter). is_short_within size marked (set_at sets waiter.place))
    (waiters_at at u) in
    ap (list_any p) (take_more set i d short)
    ∙ list_any-append p (take i set) (get_or set i d ∷ [])
    ∙ or_from _ _ before (or_from _ _ (subst (λ (l : List Waiter). list_any
    (λ (waiter : Waiter). is_short_within size marked (set_at sets waiter.place)) l ≡ false) here none) refl)

pub finds-none : {sets : List (List ℕ)} {count : ℕ} {at : List (List Waiter)} (marked set : List ℕ) (size i : ℕ)
    → AreWaiting sets count at → AreAlike marked set → length set ≤ i → NoneAt sets at marked size set i
    → list_any (is_short_within size set) (take count sets) ≡ false
finds-none {sets} {count} {at} marked set size i before alike long none =
    sym (found_among_waiting sets count at marked set size alike before)
    ∙ subst (λ (l : List ℕ). list_any (finds_at sets count at marked set size alike before) l ≡ false)
    (take_all i set long) none

-- ---- an empty set

pub filled : (sets : List (List ℕ)) → IsInCutOrder sets → 1 ≤ length (set_at sets 0) → AreFilled sets
filled sets ordered some zero inside = some
filled sets ordered some (suc place) inside =
    let less : cut_cmp (get_or sets 0 []) (get_or sets (suc place) []) ≡ Less =
    Less-from_sorted cut_cmp sets 0 (suc place) [] ordered (omega arith) inside in
    let size : length (get_or sets 0 []) ≤ length (get_or sets (suc place) []) =
    size_of_less (length (get_or sets 0 [])) (length (get_or sets (suc place) []))
    (slice_cmp nat_cmp (get_or sets 0 []) (get_or sets (suc place) [])) less in
    omega arith

-- ---- all sets

-- with the first sets decided and the others no smaller, all are decided
pub all_decided : (sets : List (List ℕ)) (set : List ℕ) (count : ℕ) (found : Bool) → count ≤ length sets
    → IsInCutOrder sets → (count < length sets → length set ≤ length (set_at sets count))
    → found ≡ list_any (is_smaller_within set) (take count sets) → found ≡ list_any (is_smaller_within set) sets
all_decided sets set count true low ordered large is =
    let (k, smaller, short, same, holds) = Any-from_list_any (is_smaller_within set) (take count sets) (sym is) in
    let inside : k < count = omega (arith, length-take {A = List ℕ}) in
    sym (list_any-from_Any (is_smaller_within set) sets
    (k, smaller, omega arith, sym (get_or-take count sets k smaller inside) ∙ same, holds))
all_decided sets set count false low ordered large is =
    elim (cases_lt count (length sets)) [
      | inl more ↦ sym (none_larger set (set_at sets count) sets count more ordered refl (large more) (sym is))
      | inr all ↦ is ∙ ap (list_any (is_smaller_within set)) (take_all count sets all)
    ]

-- where the first of some sets in order has a unit, each has
pub all_filled : {X : Type 0} (units : X → List ℕ) (cuts : List X) (first : X) {empty : Bool} → 0 < length cuts
    → IsInCutOrder (map units cuts) → empty ≡ (length (units (get_or cuts 0 first)) == 0) → empty ≡ false
    → AreFilled (map units cuts)
all_filled units cuts first some ordered empty_is not_empty =
    let size : length (get_or (map units cuts) 0 []) ≡ length (units (get_or cuts 0 first)) =
    ap length (get_or-map units cuts 0 first [] some) in
    let filled_first : 1 ≤ length (units (get_or cuts 0 first)) = grind (arith, nat_tests) in
    filled (map units cuts) ordered (omega arith)

-- what is kept of sets that each have a unit has units
pub kept_filled : (sorted : List (List ℕ)) {kept : List (List ℕ)} (i : ℕ) → AreFilled sorted
    → IsMinimalFrom (take i sorted) kept
    → AreFilled kept
kept_filled sorted {kept} i filled_all minimal place inside =
    let set : List ℕ = set_at kept place in
    let (k, short, is) = minimal.members place [] inside in
    let below : k < i = omega (arith, length-take {A = List ℕ}) in
    let within : k < length sorted = omega (arith, length-take {A = List ℕ}) in
    let at : get_or sorted k [] ≡ set =
    get_or_default sorted k [] set within ∙ sym (get_or-take i sorted k set below) ∙ is in
    let size : length (get_or sorted k []) ≡ length set = ap length at in
    let some = filled_all k within in
    omega arith

-- a set that is kept leaves those that wait ready
pub ready_on : {kept new : List (List ℕ)} {waiting : Waiting} (set : List ℕ) → AreReady kept waiting
    → new ≡ kept ++ set ∷ [] → AreReady new waiting
ready_on {waiting} set ready is = record {
  wait = subst (λ (l : List (List ℕ)). AreWaiting l waiting.count waiting.at.items) (sym is)
      (longer_list set ready.wait);
  none_marked = ready.none_marked;
}
