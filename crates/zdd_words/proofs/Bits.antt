-- What shifts, masks and the union of bits make of a node word.
use Rattle.std.proofs.Common.{◌≡◌, ℕ, ◌+◌, ◌*◌, ◌/◌, ◌%◌, ◌^◌, ◌<◌, bit_and, bit_or, refl, ◌∙◌, ap, arith}
use Rattle.std.proofs.lemmas.Nat.{shl_whole, or_shifted, and_mask, shl_below}
use Rattle.unit_sets.specs.Unit.{IsUnit}
use Rattle.zdd_words.specs.Reference.{IsReference}
use Rattle.zdd_words.specs.Word.{packed, hi_of, lo_of, level_of}

upper_bits : (level lo : ℕ) → level < 2 ^ 12 → IsReference lo
    → bit_or (level * 2 ^ 52 % 2 ^ 64) (lo * 2 ^ 26 % 2 ^ 64) ≡ (level * 2 ^ 26 + lo) * 2 ^ 26
upper_bits level lo below small =
    let e : level * 2 ^ 52 % 2 ^ 64 ≡ level * 2 ^ 52 = shl_whole level 12 52 64 below (omega arith) in
    let e' : lo * 2 ^ 26 % 2 ^ 64 ≡ lo * 2 ^ 26 = shl_whole lo 26 26 64 small (omega arith) in
    let both : bit_or (level * 2 ^ 52) (lo * 2 ^ 26) ≡ level * 2 ^ 52 + lo * 2 ^ 26 =
    or_shifted level 52 (lo * 2 ^ 26) (shl_below lo 26 26 small) in
    ap (λ n. bit_or n (lo * 2 ^ 26 % 2 ^ 64)) e ∙ ap (λ n. bit_or (level * 2 ^ 52) n) e' ∙ both ∙ (omega arith)

-- the union of the shifted parts is the packed word
joined_bits : (level lo hi : ℕ) → IsUnit level → IsReference lo → IsReference hi
    → bit_or (bit_or (level * 2 ^ 52 % 2 ^ 64) (lo * 2 ^ 26 % 2 ^ 64)) hi ≡ packed level lo hi
unfolding packed
joined_bits level lo hi unit small small' =
    ap (λ n. bit_or n hi) (upper_bits level lo (omega arith) small) ∙ or_shifted (level * 2 ^ 26 + lo) 26 hi small'
    ∙ (omega arith)

-- the lowest bits of a word are its hi
pub lowest_bits : (word : ℕ) → bit_and word 67108863 ≡ hi_of word
unfolding hi_of
lowest_bits word = and_mask word 26

-- the lowest bits above hi are lo
pub hi_of-shifted : (word : ℕ) → hi_of (word / 2 ^ 26) ≡ lo_of word
unfolding hi_of lo_of
hi_of-shifted word = refl

pub top_bits : (word : ℕ) → word / 2 ^ 52 ≡ level_of word
unfolding level_of
top_bits word = refl

-- the same where the parts are known by other names
pub joined_bits_of : {level lo hi l a b : ℕ} → l ≡ level → a ≡ lo → b ≡ hi → IsUnit level → IsReference lo
    → IsReference hi → bit_or (bit_or (l * 2 ^ 52 % 2 ^ 64) (a * 2 ^ 26 % 2 ^ 64)) b ≡ packed level lo hi
joined_bits_of {level} {lo} {hi} {a} {b} e f g unit small small' =
    ap (λ n. bit_or (bit_or (n * 2 ^ 52 % 2 ^ 64) (a * 2 ^ 26 % 2 ^ 64)) b) e
    ∙ ap (λ n. bit_or (bit_or (level * 2 ^ 52 % 2 ^ 64) (n * 2 ^ 26 % 2 ^ 64)) b) f
    ∙ ap (λ n. bit_or (bit_or (level * 2 ^ 52 % 2 ^ 64) (lo * 2 ^ 26 % 2 ^ 64)) n) g
    ∙ joined_bits level lo hi unit small small'

pub same_packed : {level lo hi l a b : ℕ} → l ≡ level → a ≡ lo → b ≡ hi → packed l a b ≡ packed level lo hi
same_packed e f g = cc
