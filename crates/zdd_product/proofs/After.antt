-- Operations one after another on one seat: for the proofs of this crate and of those above.
use Rattle.std.proofs.Common.{MatchResult, Result, IfOk, IfErr, Ok, Err, ◌≡◌, ℕ, ◌+◌, ◌⊎◌, List, [], ◌∷◌, ◌++◌}
use Rattle.std.proofs.Common.{Contains, refl, sym, ◌∙◌, ap, subst, inl, inr, append_assoc}
use Rattle.std.proofs.{lemmas.List.append-nil, lemmas.Result.MatchResult-weaker}
use Rattle.std.proofs.{lemmas.List.Elements.Contains-append_cases, lemmas.List.Elements.Contains-append_right}
use Rattle.unit_sets.proofs.Sorted.{Contains-nil, Contains-cons_cases}
use Rattle.zdd_words.specs.Reference.{IsReference}
use Rattle.zdd_words.specs.Word.{packed, lo_of, hi_of}
use Rattle.zdd_words.proofs.WordLemmas.{level_of-packed, lo_of-packed, hi_of-packed}
use Rattle.zdd_families.specs.Family.{branch}
use Rattle.zdd_families.specs.Map.{Knows, KnowsAs, Grown, family}
use Rattle.zdd_families.proofs.{MapLemmas.family-empty, MapLemmas.Knows-grown, Canonical.family-grown}
use Rattle.zdd_families.proofs.{CutsLemmas.branch-none}
use Rattle.zdd_shared_table.specs.Seats.{Seated, IsSoundSeat, map_of}
use Rattle.zdd_product.specs.Seats.{word_family, KnowsOne, FillsDue, MissesDue, Went, WentOn, Gave, WasFull}

-- ---- what was known

pub grown_then : (a b c : ℕ → ℕ) → Grown a b → Grown b c → Grown a c
grown_then a b c first second r has = second r (λ none. has (sym (first r has) ∙ none)) ∙ first r has

-- a known reference stands for the same family afterwards
pub stays : (before after : Seated) (r : ℕ) → IsSoundSeat before → IsSoundSeat after
    → Grown (map_of before) (map_of after) → Knows (map_of before) r
    → KnowsAs (map_of after) r (family (map_of before) r)
stays before after r sound sound' keeps knows = (
  Knows-grown (map_of before) (map_of after) r keeps knows,
  family-grown (map_of before) (map_of after) r sound.closed sound'.closed keeps knows,
)

-- ---- nothing was done

module _ (due : List (List ℕ) → Type 0) (seat : Seated) (sound : IsSoundSeat seat) where
  pub WentOn-nowhere : WentOn due seat seat
  WentOn-nowhere = record {
    went = record {
      store = refl;
      share = refl;
      keeps = λ r has. refl;
      sound = sound;
      fills = record { gained = []; fills = sym (append-nil seat.fills); each = λ r none. Contains-nil r none };
    };
    fulls = refl;
    missed = refl;
  }

  pub Gave-known : {is : List (List ℕ) → Type 0} {r : ℕ} → KnowsOne (map_of seat) r is → Gave is due seat seat r
  Gave-known known = record { on = WentOn-nowhere; known = known }

-- ---- what is due to an inner operation is due to the outer one

module _ (due due' : List (List ℕ) → Type 0) (outer : (f : List (List ℕ)) → due f → due' f)
    (before after : Seated) where
  pub FillsDue-as : FillsDue due before after → FillsDue due' before after
  FillsDue-as fills =
      record {
        gained = fills.gained;
        fills = fills.fills;
        each = λ r has. outer (family (map_of after) r) (fills.each r has);
      }

  Went-as : Went due before after → Went due' before after
  Went-as went =
      record {
        store = went.store;
        share = went.share;
        keeps = went.keeps;
        sound = went.sound;
        fills = FillsDue-as went.fills;
      }

  pub WentOn-as : WentOn due before after → WentOn due' before after
  WentOn-as on = record { went = Went-as on.went; fulls = on.fulls; missed = on.missed }

  pub MissesDue-as : MissesDue due before after → MissesDue due' before after
  MissesDue-as misses =
      record {
        word = misses.word;
        missed = misses.missed;
        is = outer (word_family (map_of after) misses.word) misses.is;
      }

  pub WasFull-as : WasFull due before after → WasFull due' before after
  WasFull-as full = record { went = Went-as full.went; fulls = full.fulls; missed = MissesDue-as full.missed }

-- ---- one after another

module _ {due : List (List ℕ) → Type 0} {a b : Seated} (c : Seated) (on : WentOn due a b) where
  then_each : Went due b c → (r : ℕ) → Contains on.went.fills.gained r → due (family (map_of c) r)
  then_each later r has =
      let filled : Contains b.fills r =
      subst (λ l. Contains l r) (sym on.went.fills.fills)
      (Contains-append_right a.fills on.went.fills.gained r has) in
      subst due
      (sym (family-grown (map_of b) (map_of c) r on.went.sound.closed later.sound.closed later.keeps
      (inr (on.went.sound.fills r filled))))
      (on.went.fills.each r has)

  Went-then : Went due b c → Went due a c
  Went-then later = record {
    store = later.store ∙ on.went.store;
    share = later.share ∙ on.went.share;
    keeps = grown_then (map_of a) (map_of b) (map_of c) on.went.keeps later.keeps;
    sound = later.sound;
    fills = record {
      gained = on.went.fills.gained ++ later.fills.gained;
      fills =
          later.fills.fills ∙ ap (λ l. l ++ later.fills.gained) on.went.fills.fills
          ∙ append_assoc a.fills on.went.fills.gained later.fills.gained;
      each = λ r has. elim (Contains-append_cases on.went.fills.gained later.fills.gained r has) [
        | inl first ↦ then_each later r first
        | inr second ↦ later.fills.each r second
      ];
    };
  }

  pub WentOn-then : WentOn due b c → WentOn due a c
  WentOn-then later =
      record { went = Went-then later.went; fulls = later.fulls ∙ on.fulls; missed = later.missed ∙ on.missed }

  pub Gave-then : {is : List (List ℕ) → Type 0} {r : ℕ} → Gave is due b c r → Gave is due a c r
  Gave-then gave = record { on = WentOn-then gave.on; known = gave.known }

  pub WasFull-then : WasFull due b c → WasFull due a c
  WasFull-then full = record {
    went = Went-then full.went;
    fulls = full.fulls ∙ ap (λ n. n + 1) on.fulls;
    missed = record {
      word = full.missed.word;
      missed = full.missed.missed ∙ ap (λ l. l ++ full.missed.word ∷ []) on.missed;
      is = full.missed.is;
    };
  }

-- ---- an inner operation after what was done

module _ {due : List (List ℕ) → Type 0} (inner : List (List ℕ) → Type 0) {a b : Seated} (c : Seated)
    (on : WentOn due a b)
    (to_due : (h : List (List ℕ)) → inner h → due h) where
  pub WentOn-next : WentOn inner b c → WentOn due a c
  WentOn-next later = WentOn-then c on (WentOn-as inner due to_due b c later)

  pub WasFull-next : WasFull inner b c → WasFull due a c
  WasFull-next full = WasFull-then c on (WasFull-as inner due to_due b c full)

-- what is known of a reference stays true of it afterwards
pub known_stays : {due : List (List ℕ) → Type 0} {before after : Seated} (is : List (List ℕ) → Type 0) (r : ℕ)
    → IsSoundSeat before → WentOn due before after → KnowsOne (map_of before) r is → KnowsOne (map_of after) r is
known_stays {before = before} {after = after} is r sound on known =
    let at : KnowsAs (map_of after) r (family (map_of before) r) =
    stays before after r sound on.went.sound on.went.keeps known.0 in
    (at.0, subst is (sym at.1) known.1)

-- a fact of two families, at families that are equal to them
pub at_both : (R : List (List ℕ) → List (List ℕ) → Type 0) {f f' g g' : List (List ℕ)} → f ≡ f' → g ≡ g' → R f g
    → R f' g'
at_both R {f'} {g} same same' fact = subst (λ q. R f' q) same' (subst (λ q. R q g) same fact)

-- ---- one node

pub only_one : (r q : ℕ) → Contains (r ∷ []) q → r ≡ q
only_one r q has =
    elim (Contains-cons_cases r q [] has) [
      | inl same ↦ same
      | inr none ↦ Contains-nil q none
    ]

-- what the store's call on one node does to a seat
module _ (before after : Seated) (f : List (List ℕ)) (store : after.store ≡ before.store)
    (share : after.share ≡ before.share) (keeps : Grown (map_of before) (map_of after))
    (sound : IsSoundSeat after) where
  node_fills : (r : ℕ) → KnowsAs (map_of after) r f
      → (after.fills ≡ before.fills) ⊎ (after.fills ≡ before.fills ++ r ∷ []) → FillsDue (λ h. h ≡ f) before after
  node_fills r known (inl same) =
      record { gained = []; fills = same ∙ sym (append-nil before.fills); each = λ q none. Contains-nil q none }
  node_fills r known (inr more) = record {
    gained = r ∷ [];
    fills = more;
    each = λ q has. ap (family (map_of after)) (sym (only_one r q has)) ∙ known.1;
  }

  pub Gave-node : {r : ℕ} → KnowsAs (map_of after) r f
      → (after.fills ≡ before.fills) ⊎ (after.fills ≡ before.fills ++ r ∷ []) → after.fulls ≡ before.fulls
      → after.missed ≡ before.missed → Gave (λ h. h ≡ f) (λ h. h ≡ f) before after r
  Gave-node {r} known fills fulls missed = record {
    on = record {
      went = record { store = store; share = share; keeps = keeps; sound = sound; fills = node_fills r known fills };
      fulls = fulls;
      missed = missed;
    };
    known = known;
  }

  pub WasFull-node : (word : ℕ) → word_family (map_of after) word ≡ f → after.fills ≡ before.fills
      → after.fulls ≡ before.fulls + 1 → after.missed ≡ before.missed ++ word ∷ [] → WasFull (λ h. h ≡ f) before after
  WasFull-node word is same fulls missed = record {
    went = record {
      store = store;
      share = share;
      keeps = keeps;
      sound = sound;
      fills =
          record { gained = []; fills = same ∙ sym (append-nil before.fills); each = λ q none. Contains-nil q none };
    };
    fulls = fulls;
    missed = record { word = word; missed = missed; is = is };
  }

-- what holds of both answers of the store's call on one node
pub node_made : {E : Type 0} (before after : Seated) {f : List (List ℕ)} (word : ℕ) → after.store ≡ before.store
    → after.share ≡ before.share → Grown (map_of before) (map_of after) → IsSoundSeat after
    → (word_family (map_of after) word ≡ f)
    → (result : Result ℕ E) → IfOk result (λ r. KnowsAs (map_of after) r f)
    → MatchResult result (λ r. (after.fills ≡ before.fills) ⊎ (after.fills ≡ before.fills ++ r ∷ []))
    (λ _. after.fills ≡ before.fills)
    → MatchResult result (λ _. after.fulls ≡ before.fulls) (λ _. after.fulls ≡ before.fulls + 1)
    → MatchResult result (λ _. after.missed ≡ before.missed) (λ _. after.missed ≡ before.missed ++ word ∷ [])
    → MatchResult result (Gave (λ h. h ≡ f) (λ h. h ≡ f) before after) (λ _. WasFull (λ h. h ≡ f) before after)
node_made before after {f} word store share keeps sound is (Ok r) known fills fulls missed =
    Gave-node before after f store share keeps sound known fills fulls missed
node_made before after {f} word store share keeps sound is (Err e) known fills fulls missed =
    WasFull-node before after f store share keeps sound word is fills fulls missed

-- the family of a word that is packed
pub word_family-packed : (known : ℕ → ℕ) (level lo hi : ℕ) → IsReference lo → IsReference hi
    → word_family known (packed level lo hi) ≡ branch level (family known lo) (family known hi)
word_family-packed known level lo hi small small' =
    ap (λ x. branch x (family known (lo_of (packed level lo hi))) (family known (hi_of (packed level lo hi))))
    (level_of-packed level lo hi small small')
    ∙ ap (λ r. branch level (family known r) (family known (hi_of (packed level lo hi))))
    (lo_of-packed level lo hi small small')
    ∙ ap (λ r. branch level (family known lo) (family known r)) (hi_of-packed level lo hi small')

-- a node with no sets with its level is its lo
pub lo_alone : (known : ℕ → ℕ) (level lo : ℕ) {hi : ℕ} → hi ≡ 0
    → family known lo ≡ branch level (family known lo) (family known hi)
lo_alone known level lo none =
    sym (ap (λ r. branch level (family known lo) (family known r)) none
    ∙ ap (branch level (family known lo)) (family-empty known) ∙ branch-none level (family known lo))

-- ---- a node is made at the end

module _ (made is : List (List ℕ) → Type 0) {due : List (List ℕ) → Type 0} (to_is : (h : List (List ℕ)) → made h → is h)
    (to_due : (h : List (List ℕ)) → made h → due h) {a b : Seated} (c : Seated) (on : WentOn due a b) where
  Gave-made : {r : ℕ} → Gave made made b c r → Gave is due a c r
  Gave-made {r} gave =
      Gave-then c on (record {
        on = WentOn-as made due to_due b c gave.on;
        known = (gave.known.0, to_is (family (map_of c) r) gave.known.1);
      })

  pub made_after : {E : Type 0} (result : Result ℕ E) → MatchResult result (Gave made made b c) (λ _. WasFull made b c)
      → MatchResult result (Gave is due a c) (λ _. WasFull due a c)
  made_after result m =
      MatchResult-weaker result m (λ r gave. Gave-made gave)
      (λ _ full. WasFull-then c on (WasFull-as made due to_due b c full))

-- ---- the two answers of an operation, taken from one fact of both

module _ {E : Type 0} (is due due' : List (List ℕ) → Type 0) (to_due : (h : List (List ℕ)) → due h → due' h)
    (before after : Seated) (result : Result ℕ E)
    (both : MatchResult result (Gave is due before after) (λ _. WasFull due before after)) where
  pub gave_of : IfOk result (Gave is due' before after)
  gave_of =
      MatchResult-weaker result both (λ r gave. record {
        on = WentOn-as due due' to_due before after gave.on;
        known = gave.known;
      }) (λ _ _. tt)

  pub full_of : IfErr result (λ _. WasFull due' before after)
  full_of = MatchResult-weaker result both (λ _ _. tt) (λ _ full. WasFull-as due due' to_due before after full)
