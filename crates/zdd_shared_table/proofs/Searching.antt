-- How a search goes on from slot to slot.
use Rattle.std.proofs.Common.{◌≡◌, ◌≢◌, ℕ, ◌+◌, ◌<◌, ◌≤◌, ◌^◌, ◌==◌, sym, ◌∙◌, ap, subst, refl, arith, inl, inr}
use Rattle.std.proofs.Common.{if◌then◌else◌, ne_eqb}
use Rattle.zdd_words.specs.Word.{home_of}
use Rattle.zdd_families.specs.Map.{IsNode}
use Rattle.zdd_shared_table.specs.{Known.find, Rule.round, Search.IsSearch, Search.HasEnded, declared.view.View.View}
use Rattle.zdd_shared_table.specs.Views.{searching, searched_all, passed_on}
use Rattle.zdd_shared_table.proofs.{SearchLemmas.after_passing, Rounds.round-next, Views.by_test}

passing-none : (word : ℕ) (v : View) → after_passing word 0 v ≡ v
passing-none word v = refl

-- what holds of the view before, and of one that has passed some slots, holds after any number of them but all
pub while_passing : (P : View → Type 0) (word passed : ℕ) (v : View) → passed < v.size → (passed ≡ 0 → P v)
    → (passed ≢ 0 → P (searching word passed v)) → P (after_passing word passed v)
while_passing P word passed v short none some =
    by_test P passed 0 v (if passed == v.size then searched_all word v else searching word passed v) none
    (λ more. by_test P passed v.size (searched_all word v) (searching word passed v) (λ all. absurd (omega arith))
    (λ _. some more))

-- one more slot is passed
pub passing-more : (word passed : ℕ) (v : View) → passed < v.size
    → passed_on word passed (after_passing word passed v) ≡ after_passing word (passed + 1) v
passing-more word passed v short =
    let more : passed + 1 ≢ 0 = λ e. omega arith in
    while_passing (λ w. passed_on word passed w ≡ after_passing word (passed + 1) v) word passed v short
    (λ none. rw (ne_eqb (passed + 1) 0 more) refl)
    (λ some. rw (ne_eqb (passed + 1) 0 more) refl)

-- where a seat stands in a search
pub search_at : (bits : ℕ) {word : ℕ} (passed : ℕ) {slot : ℕ} (v : View) → bits ≤ 64 → v.size ≡ 2 ^ bits
    → IsNode (find v.known) word
    → passed < 2 ^ bits → slot ≡ round (2 ^ bits) (home_of word bits + passed)
    → IsSearch bits (after_passing word passed v) word passed slot
search_at bits {word} passed {slot} v few sized node inside here =
    while_passing (λ w. IsSearch bits w word passed slot) word passed v (omega arith)
    (λ none. record { few = few; sized = sized; node = node; inside = inside; here = here; goes_on = inl none })
    (λ some. record { few = few; sized = sized; node = node; inside = inside; here = here; goes_on = inr refl })

-- a search that ends says the same of the view before it
pub ended : (word passed slot : ℕ) (v w : View) → passed < v.size → HasEnded word slot (after_passing word passed v) w
    → HasEnded word slot v w
ended word passed slot v w short end =
    while_passing (λ u. HasEnded word slot u w → HasEnded word slot v w) word passed v short (λ _ h. h) (λ _ h. h) end

-- where a seat stands in a search, as the loop has it
pub search_here : {key bits size word passed slot : ℕ} (v : View) {w : View} → 10 ≤ bits → bits ≤ 25 → key ≡ bits
    → size ≡ 2 ^ bits → v.size ≡ size → IsNode (find v.known) word → passed < size
    → slot ≡ round size (home_of word bits + passed) → w ≡ after_passing word passed v
    → IsSearch key w word passed slot
search_here {bits} {word} {passed} {slot} v {w} few many same whole sized node short here is =
    let here' : slot ≡ round (2 ^ bits) (home_of word bits + passed) =
    here ∙ ap (λ (n : ℕ). round n (home_of word bits + passed)) whole in
    let at = search_at bits passed v (omega arith) (sized ∙ whole) node (omega arith) here' in
    subst (λ (k : ℕ). IsSearch k w word passed slot) (sym same)
    (subst (λ u. IsSearch bits u word passed slot) (sym is) at)

-- the next slot of a search
pub next_here : (home size passed : ℕ) {slot next : ℕ} → home < size → passed < size → slot ≡ round size (home + passed)
    → next ≡ round size (slot + 1) → passed + 1 < size → next ≡ round size (home + (passed + 1))
next_here home size passed inside short here is more =
    is ∙ (ap (λ (n : ℕ). round size (n + 1)) here ∙ round-next size home passed inside more)
