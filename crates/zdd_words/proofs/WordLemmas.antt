-- What follows from the definitions of `specs/Word`.
use Rattle.std.specs.Prelude.{ℕ, ◌≡◌, ◌≢◌, ◌+◌, ◌-◌, ◌*◌, ◌/◌, ◌%◌, ◌^◌, ◌<◌, ◌≤◌}
use Rattle.std.proofs.Common.{refl, sym, ◌∙◌, ap, subst, arith}
use Rattle.std.proofs.lemmas.Nat.{shr_high, mod_low, shr-shr, shr_split, mod_below, shr_below, pow_pos}
use Rattle.unit_sets.specs.Unit.{IsUnit}
use Rattle.zdd_words.specs.Reference.{IsReference}
use Rattle.zdd_words.specs.Word.{hi_of, home_of, level_of, lo_of, packed}

-- ---- what is packed comes back

by_halves : (level lo hi : ℕ) → packed level lo hi ≡ (level * 2 ^ 26 + lo) * 2 ^ 26 + hi
unfolding packed
by_halves level lo hi = omega arith

upper : (level lo hi : ℕ) → IsReference hi → packed level lo hi / 2 ^ 26 ≡ level * 2 ^ 26 + lo
upper level lo hi small = rw by_halves (shr_high (level * 2 ^ 26 + lo) 26 hi small)

pub level_of-packed : (level lo hi : ℕ) → IsReference lo → IsReference hi → level_of (packed level lo hi) ≡ level
unfolding level_of
level_of-packed level lo hi small small' =
    sym (shr-shr (packed level lo hi) 26 26) ∙ ap (λ n. n / 2 ^ 26) (upper level lo hi small')
    ∙ shr_high level 26 lo small

pub lo_of-packed : (level lo hi : ℕ) → IsReference lo → IsReference hi → lo_of (packed level lo hi) ≡ lo
unfolding lo_of
lo_of-packed level lo hi small small' =
    ap (λ n. n % 2 ^ 26) (upper level lo hi small') ∙ mod_low level 26 lo small

pub hi_of-packed : (level lo hi : ℕ) → IsReference hi → hi_of (packed level lo hi) ≡ hi
unfolding hi_of
hi_of-packed level lo hi small = rw by_halves (mod_low (level * 2 ^ 26 + lo) 26 hi small)

-- ---- a word comes back from its parts

pub packed-parts : (word : ℕ) → packed (level_of word) (lo_of word) (hi_of word) ≡ word
unfolding level_of lo_of hi_of
packed-parts word =
    let top : word / 2 ^ 26 / 2 ^ 26 * 2 ^ 26 + word / 2 ^ 26 % 2 ^ 26 ≡ word / 2 ^ 26 = shr_split (word / 2 ^ 26) 26 in
    let all : word / 2 ^ 26 * 2 ^ 26 + word % 2 ^ 26 ≡ word = shr_split word 26 in
    by_halves (word / 2 ^ 52) (word / 2 ^ 26 % 2 ^ 26) (word % 2 ^ 26)
    ∙ ap (λ n. (n * 2 ^ 26 + word / 2 ^ 26 % 2 ^ 26) * 2 ^ 26 + word % 2 ^ 26) (sym (shr-shr word 26 26))
    ∙ ap (λ n. n * 2 ^ 26 + word % 2 ^ 26) top
    ∙ all

-- two words with the same parts are equal
pub same_word : (word other : ℕ) → level_of word ≡ level_of other → lo_of word ≡ lo_of other → hi_of word ≡ hi_of other
    → word ≡ other
same_word word other at below above =
    sym (packed-parts word)
    ∙ ap (λ n. packed n (lo_of word) (hi_of word)) at
    ∙ ap (λ n. packed (level_of other) n (hi_of word)) below
    ∙ ap (λ n. packed (level_of other) (lo_of other) n) above
    ∙ packed-parts other

-- ---- bounds

pub level_of-below : (word : ℕ) → word < 2 ^ 64 → level_of word < 4096
unfolding level_of
level_of-below word fits = shr_below word 12 52 fits

pub IsUnit-level_of : (word : ℕ) → word < 2 ^ 64 → 1 ≤ level_of word → IsUnit (level_of word)
IsUnit-level_of word fits filled = let below = level_of-below word fits in (filled, omega arith)

-- a word whose level is a unit's number is not 0
pub packed-filled : (level lo hi : ℕ) → 1 ≤ level → packed level lo hi ≢ 0
unfolding packed
packed-filled level lo hi above e = omega arith

-- the empty word has the level 0, which no node has
pub level_of-zero : level_of 0 ≡ 0
unfolding level_of
level_of-zero = refl

pub home_of-below : (word bits : ℕ) → bits ≤ 64 → home_of word bits < 2 ^ bits
unfolding home_of
home_of-below word bits few =
    shr_below ((word * 11400714819323198485) % 2 ^ 64) bits (64 - bits)
    (let whole : bits + (64 - bits) ≡ 64 = omega arith in
    subst (λ n. (word * 11400714819323198485) % 2 ^ 64 < 2 ^ n) (sym whole)
    (mod_below (word * 11400714819323198485) (2 ^ 64) (pow_pos 64)))
