-- Each kind of step keeps the rule, whatever the other seats did before.
use Rattle.std.proofs.Common.{◌≡◌, ◌≢◌, ℕ, ◌+◌, ◌<◌, ◌^◌, ◌==◌, List, get_or, set, get_or-set_other, sym, ◌∙◌, ap}
use Rattle.std.proofs.Common.{subst, refl, arith, ⊎_elim, if◌then◌else◌}
use Rattle.zdd_shared_table.proofs.{Maps.placed-slot, Told.told}
use mathlib.Core.Logic.{dite}
use native.Mathlib.Decide.{ℕ_discrete}
use mathlib.Core.Option.{Option, some}
use lib.ListN.{get_elem?}
use lib.Seq.{set-get_or}
use prog.Atomic.{either}
use Rattle.atomic_table.specs.Table.{State, keeps, stepped, Allows, Splits, Joins}
use Rattle.atomic_table.proofs.Lists.{at_set, at_snoc, set_else, exchanged as by_exchange}
use Rattle.zdd_words.specs.Word.{home_of}
use Rattle.zdd_words.proofs.WordLemmas.{home_of-below}
use Rattle.zdd_families.specs.Map.{IsNode}
use Rattle.zdd_families.proofs.MapLemmas.{IsNode-grown}
use Rattle.zdd_shared_table.specs.{Known.find, Known.placed, Search.IsSearch, Seats.IsSoundView}
use Rattle.zdd_shared_table.specs.{declared.view.View.View}
use Rattle.zdd_shared_table.specs.Views.{spent, learned, filled, passed_on, loaded, exchanged, kept_back, split_off}
use Rattle.zdd_shared_table.specs.Views.{joined}
use Rattle.zdd_shared_table.specs.Rule.{round, HoldsNodes, Fits, IsKnownBySome, IsStore}
use Rattle.zdd_shared_table.proofs.Filling.{HasAll, HasPassed, IsNode-filled, Fits-filled, IsGrown-placed, filled_words}
use Rattle.zdd_shared_table.proofs.Owned.{Keeps, stands, still_known, keeps_same, keeps_loaded, keeps_exchanged}
use Rattle.zdd_shared_table.proofs.Owned.{keeps_filled, keeps_joined, known_among_more, known_after_join}
use Rattle.zdd_shared_table.proofs.Views.{by_test, by_slot, found, right, Fits-learned, Fits-filling, Fits-passed}
use Rattle.zdd_shared_table.proofs.Views.{Fits-kept, Fits-split, Fits-joined, Fits-spent}

abbrev Seats : Type 0
Seats = State (Unit {0}) View

-- a view that fits the words of a table of 2 ^ bits slots
abbrev FitsIn : ℕ → List ℕ → View → Type 0
FitsIn bits words v = Fits (λ word. home_of word bits) (2 ^ bits) words v

-- where the words become others with all that stood there, and one seat's view fits them, the rule holds
replaced : {bits : ℕ} {s : Seats} {more : List ℕ} (homes : List (Option (Unit {0}))) (seat : ℕ) (v : View)
    → IsStore bits s → HoldsNodes (λ word. home_of word bits) (2 ^ bits) more → HasAll s.words more
    → FitsIn bits more v → ((slot : ℕ) → get_or more slot 0 ≢ 0 → IsKnownBySome (set s.views seat v) slot)
    → IsStore bits record { words = more; homes = homes; views = set s.views seat v }
replaced {bits} {s} {more} homes seat v rule nodes all fits owned = record {
  owned = owned;
  nodes = nodes;
  views = λ other w at. ⊎_elim
      (λ (t : (other ≡ seat) × (v ≡ w)). subst (FitsIn bits more) t.1 fits)
      (λ (t : (other ≢ seat) × (get_elem? s.views other ≡ some w)). Fits-filled all (rule.views other w t.1))
      (at_set s.views seat other v w at);
}

-- one seat's view becomes another that fits the words and keeps what it knew
renewed : {bits : ℕ} {s : Seats} (seat : ℕ) {u v : View} → IsStore bits s → get_elem? s.views seat ≡ some u → Keeps u v
    → FitsIn bits s.words v → IsStore bits record { words = s.words; homes = s.homes; views = set s.views seat v }
renewed {s} seat {v} rule mine kept fits =
    replaced s.homes seat v rule rule.nodes (λ at full. refl) fits
    (λ at full. still_known seat mine kept (rule.owned at full))

-- a load changes no word
same_words : {bits : ℕ} {s : Seats} (slot seat : ℕ) {u v : View} (cs : List (ℕ × Unit {0})) → IsStore bits s
    → get_elem? s.views seat ≡ some u → Keeps u v → FitsIn bits s.words v
    → IsStore bits (stepped s slot (get_or s.words slot 0) seat cs v keeps)
same_words {bits} {s} slot seat {v} cs rule mine kept fits =
    subst (λ (ws : List ℕ). IsStore bits record { words = ws; homes = s.homes; views = set s.views seat v })
    (sym (set-get_or s.words slot 0)) (renewed seat rule mine kept fits)

module _ {bits : ℕ} (seat : ℕ) {v : View} {word before slot : ℕ} (search : IsSearch bits v word before slot) {s : Seats}
    (rule : IsStore bits s) (mine : get_elem? s.views seat ≡ some v) where
  abbrev home : ℕ → ℕ
  home w = home_of w bits

  abbrev size : ℕ
  size = 2 ^ bits

  fits : Fits home size s.words v
  fits = rule.views seat v mine

  passed : HasPassed home size s.words word before
  passed place short = ⊎_elim
      (λ (none : before ≡ 0). absurd (omega arith))
      (λ (at : v.probe ≡ record { word = word; passed = before }).
      let h : place < v.probe.passed = let e = ap (λ p. p.passed) at in omega arith in
      let P : ℕ → Type 0 =
      λ w. (get_or s.words (round size (home w + place)) 0 ≢ 0)
      × (get_or s.words (round size (home w + place)) 0 ≢ w) in
      subst P (ap (λ p. p.word) at) (fits.passed place h))
      search.goes_on

  in_home : home word < size
  in_home = home_of-below word bits search.few

  -- where the slot holds some word, the seat has learned its place or goes on, and otherwise it is as this says
  Fits-after : (start : View) → (get_or s.words slot 0 ≡ 0 → Fits home size s.words start)
      → Fits home size s.words (if get_or s.words slot 0 == 0 then start
      else (if get_or s.words slot 0 == word then learned word slot v else passed_on word before v))
  Fits-after start none =
      by_slot (Fits home size s.words) word before slot (get_or s.words slot 0) v start none
      (λ _ is. Fits-learned fits slot is search.node)
      (λ full differs. let P : ℕ → Type 0 = λ k. (get_or s.words k 0 ≢ 0) × (get_or s.words k 0 ≢ word) in
      Fits-passed fits before in_home search.sized search.node passed (subst P search.here (full, differs)))

  -- the slot that the seat fills is known to it, and the others are known as before
  owned-filled : Fits home size (set s.words slot word) v → get_or (set s.words slot word) slot 0 ≡ word → {at : ℕ}
      → get_or (set s.words slot word) at 0 ≢ 0 → IsKnownBySome (set s.views seat (filled word slot v)) at
  owned-filled fits' there {at} full =
      dite (ℕ_discrete at slot)
      (λ same. record {
        seat = seat;
        view = filled word slot v;
        at = stands s.views seat v (filled word slot v) mine;
        knows = λ none. IsNode-filled search.node (sym (found fits' slot there search.node)
            ∙ (ap (λ k. find (filled word slot v).known (k + 2)) (sym same) ∙ none));
      }) (λ other. still_known seat mine (keeps_filled word slot v)
      (rule.owned at (λ none. full (get_or-set_other s.words slot at word 0 other ∙ none))))

  -- where the slot was empty, the seat fills it
  store-filled : get_or s.words slot 0 ≡ 0 → IsStore bits
      record { words = set s.words slot word; homes = s.homes; views = set s.views seat (filled word slot v) }
  store-filled empty =
      let node : IsNode (placed s.words) word = IsNode-grown _ _ _ (IsGrown-placed fits) search.node in
      let new = filled_words before in_home rule.nodes node search.inside search.here passed empty in
      let fits' : Fits home size (set s.words slot word) v = Fits-filled new.0 fits in
      replaced s.homes seat (filled word slot v) rule new.2 new.0 (Fits-filling fits' slot new.1 search.node)
      (λ at full. owned-filled fits' new.1 full)

-- a view of the right size that fits the rule is sound
sound_after : {bits : ℕ} (seat : ℕ) {s : Seats} (w : View) → IsStore bits s → get_elem? s.views seat ≡ some w
    → w.size ≡ 2 ^ bits → IsSoundView w
sound_after seat w rule at sized = told w rule.nodes (rule.views seat w at) sized

-- a load in a search
pub allows_load : {bits : ℕ} (slots seat : ℕ) {v : View} (cs : List (ℕ × Unit {0})) {word before slot : ℕ}
    → IsSearch bits v word before slot
    → Allows (IsStore bits) slots seat (v, cs) slot (λ n. n)
    (λ found after. (after.0 ≡ loaded word before slot found v) × (after.1 ≡ cs) × IsSoundView after.0)
allows_load {bits} slots seat {v} cs {word} {before} {slot} search s rule homes mine in_range =
    let w = loaded word before slot (get_or s.words slot 0) v in
    let keeps' = keeps_loaded word before slot (get_or s.words slot 0) v in
    let kept : IsStore bits (stepped s slot (get_or s.words slot 0) seat cs w keeps) =
    same_words slot seat cs rule mine keeps' (Fits-after seat search rule mine v (λ _. rule.views seat v mine)) in (
      w,
      keeps,
      tt,
      kept,
      (refl, refl, sound_after seat w kept (stands s.views seat v w mine) (keeps'.size ∙ search.sized)),
    )

-- an exchange in a search, of an empty slot for the word
pub allows_exchange : {bits : ℕ} (slots seat : ℕ) {v : View} (cs : List (ℕ × Unit {0})) {word before slot : ℕ}
    → IsSearch bits v word before slot
    → Allows (IsStore bits) slots seat (v, cs) slot (λ n. either (n == 0) word n)
    (λ found after. (after.0 ≡ exchanged word before slot found v) × (after.1 ≡ cs) × IsSoundView after.0)
allows_exchange {bits} slots seat {v} cs {word} {before} {slot} search s rule homes mine in_range =
    let found : ℕ = get_or s.words slot 0 in
    let w = exchanged word before slot found v in
    let keeps' = keeps_exchanged word before slot found v in
    let kept : IsStore bits (stepped s slot (either (found == 0) word found) seat cs w keeps) =
    by_exchange found 0 word
    (λ n. IsStore bits record { words = set s.words slot n; homes = s.homes; views = set s.views seat w })
    (λ empty. by_test
    (λ w. IsStore bits record { words = set s.words slot word; homes = s.homes; views = set s.views seat w }) found 0
    (filled word slot v) (if found == word then learned word slot v else passed_on word before v)
    (λ _. store-filled seat search rule mine empty)
    (λ full. absurd (full empty)))
    (λ full. same_words slot seat cs rule mine keeps'
    (Fits-after seat search rule mine (filled word slot v) (λ empty. absurd (full empty)))) in (
      w,
      keeps,
      tt,
      kept,
      (refl, refl, sound_after seat w kept (stands s.views seat v w mine) (keeps'.size ∙ search.sized)),
    )

-- a load that tells what the rule says of the seat
pub allows_look : (bits slots seat : ℕ) (v : View) (cs : List (ℕ × Unit {0})) (slot : ℕ) → v.size ≡ 2 ^ bits
    → Allows (IsStore bits) slots seat (v, cs) slot (λ n. n)
    (λ found after. (after.0 ≡ v) × (after.1 ≡ cs) × IsSoundView after.0)
allows_look bits slots seat v cs slot sized s rule homes mine in_range = (
  v,
  keeps,
  tt,
  same_words slot seat cs rule mine (keeps_same v) (rule.views seat v mine),
  (refl, refl, sound_after seat v rule mine sized),
)

-- a load of a known reference's slot
pub allows_read : (bits slots seat : ℕ) (v : View) (cs : List (ℕ × Unit {0})) (slot : ℕ)
    → Allows (IsStore bits) slots seat (v, cs) slot (λ n. n)
    (λ found after. (after.0 ≡ v) × (after.1 ≡ cs)
    × (find v.known (slot + 2) ≢ 0 → found ≡ find v.known (slot + 2)))
allows_read bits slots seat v cs slot s rule homes mine in_range =
    let fits = rule.views seat v mine in (
      v,
      keeps,
      tt,
      same_words slot seat cs rule mine (keeps_same v) fits,
      (refl, refl, λ known. sym (placed-slot s.words slot) ∙ IsGrown-placed fits (slot + 2) known),
    )

-- a seat splits
pub allows_split : (bits seat : ℕ) (v : View) (share : ℕ)
    → Splits (IsStore bits) seat v (kept_back share v) (split_off share v)
allows_split bits seat v share s rule mine =
    let fits = rule.views seat v mine in
    let left =
    renewed seat rule mine record { size = refl; known = λ reference known. known } (Fits-kept fits share) in
    record {
      owned = λ at full. known_among_more (split_off share v) (left.owned at full);
      nodes = rule.nodes;
      views = λ other w at. ⊎_elim (left.views other w)
          (λ (same : split_off share v ≡ w). subst (FitsIn bits s.words) same (Fits-split fits share))
          (at_snoc (set s.views seat (kept_back share v)) (split_off share v) w other at);
    }

-- a seat takes in another, which is spent
pub allows_join : (bits : ℕ) {seat : ℕ} {v : View} {other : ℕ} {w : View}
    → Joins (IsStore bits) seat v other w (joined v w) spent
allows_join bits {seat} {v} {other} {w} s rule mine differ theirs =
    let fits : FitsIn bits s.words v = rule.views seat v mine in
    let fits' : FitsIn bits s.words w =
    rule.views other w (sym (set_else s.views seat other (joined v w) differ) ∙ theirs) in
    let one = renewed seat rule mine (keeps_joined v w) (Fits-joined fits fits') in
    replaced s.homes other spent one rule.nodes (λ slot full. refl)
    (Fits-spent (λ k. home_of k bits) (2 ^ bits) s.words)
    (λ slot full. known_after_join w (joined v w) spent differ (stands s.views seat v (joined v w) mine) theirs
    (λ reference known none. known (sym (right fits fits' reference known) ∙ none)) (one.owned slot full))
