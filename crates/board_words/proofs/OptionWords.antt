-- Options as words, and as options with their values.
use Rattle.std.specs.Prelude.{◌≡◌, ◌≢◌, ℕ, ◌<◌, Bool, true, false, if◌then◌else◌, List, [], ◌∷◌, decimal, Option}
use Rattle.std.specs.Prelude.{Some, None, unwrap_or, is_none}
use Rattle.std.specs.List.{Any}
use Rattle.std.proofs.Common.{refl, sym, ap, ◌∙◌, subst, inl, inr, true≢false}
use Rattle.std.proofs.lemmas.Bool.{and_parts, and_from}
use Rattle.std.proofs.lemmas.List.Folds.{Any-from_list_any, list_any-from_Any}
use lib.Pointwise.{bytes_decides}
use Rattle.board_words.specs.Options.{is_same, is_known, is_said_once, are_options, value_of, number_said}
use Rattle.board_words.specs.Spellings.{Said, words_of, Has, Lacks, AreSaid, SaysNumber, written, unsaid}
use Rattle.board_words.proofs.Numerals.{says, said_within}

pub same_word : (word other : List ℕ) → is_same word other ≡ true → word ≡ other
same_word word other = (bytes_decides word other).0

pub word_same : {word other : List ℕ} → word ≡ other → is_same word other ≡ true
word_same {word} {other} = (bytes_decides word other).1

pub other_word : (word other : List ℕ) → is_same word other ≡ false → word ≢ other
other_word word other e same = true≢false (sym (word_same same) ∙ e)

word_other : (word other : List ℕ) → word ≢ other → is_same word other ≡ false
word_other word other apart = by_test (is_same word other) refl
  where
    by_test : (b : Bool) → is_same word other ≡ b → is_same word other ≡ false
    by_test true e = absurd (apart (same_word word other e))
    by_test false e = e

-- ---- one option

pub lacks_value : (options : List Said) (option : List ℕ) → Lacks options option
    → value_of option (words_of options) ≡ None
lacks_value [] option lacks = refl
lacks_value (said ∷ more) option lacks =
    ap (λ b. if b then Some said.value else value_of option (words_of more)) (word_other said.option option lacks.0)
    ∙ lacks_value more option lacks.1

has_not : {P : Type 0} (options : List Said) (option value : List ℕ) → Lacks options option → Has options option value
    → P
has_not [] option value lacks has = absurd has
has_not (said ∷ more) option value lacks has =
    elim has [ inl here ↦ absurd (lacks.0 here.0) | inr behind ↦ has_not more option value lacks.1 behind ]

pub has_value : (known : List (List ℕ)) (options : List Said) (option value : List ℕ) → AreSaid known options
    → Has options option value → value_of option (words_of options) ≡ Some value
has_value known [] option value all has = absurd has
has_value known (said ∷ more) option value all has = elim has [
  | inl here ↦ ap (λ b. if b then Some said.value else value_of option (words_of more))
      (word_same here.0) ∙ ap (λ v. Some v) here.1
  | inr behind ↦
      ap (λ b. if b then Some said.value else value_of option (words_of more))
      (word_other said.option option (λ same. has_not more option value (subst (Lacks more) same all.1) behind))
      ∙ has_value known more option value all.2 behind
]

some_word : (word other : List ℕ) → Some word ≡ Some other → word ≡ other
some_word word other e = ap (λ o. unwrap_or o []) e

first_or_later : (options : List Said) (said : Said) (option value : List ℕ) (b : Bool) → is_same said.option option ≡ b
    → ((value_of option (words_of options) ≡ Some value) → Has options option value)
    → (if b then Some said.value else value_of option (words_of options)) ≡ Some value
    → Has (said ∷ options) option value
first_or_later options said option value true same later e =
    inl (same_word said.option option same, some_word said.value value e)
first_or_later options said option value false same later e = inr (later e)

pub value_has : (options : List Said) (option value : List ℕ) → value_of option (words_of options) ≡ Some value
    → Has options option value
value_has [] option value e = absurd cc
value_has (said ∷ more) option value e =
    first_or_later more said option value (is_same said.option option) refl (value_has more option value) e

not_first : (options : List Said) (said : Said) (option : List ℕ) (b : Bool) → is_same said.option option ≡ b
    → (value_of option (words_of options) ≡ None → Lacks options option)
    → (if b then Some said.value else value_of option (words_of options)) ≡ None → Lacks (said ∷ options) option
not_first options said option true same later e = absurd cc
not_first options said option false same later e = (other_word said.option option same, later e)

pub value_lacks : (options : List Said) (option : List ℕ) → value_of option (words_of options) ≡ None
    → Lacks options option
value_lacks [] option e = tt
value_lacks (said ∷ more) option e =
    not_first more said option (is_same said.option option) refl (value_lacks more option) e

-- ---- all options

any_weaker : (P Q : List ℕ → Type 0) → ((x : List ℕ) → P x → Q x) → (xs : List (List ℕ)) → Any P xs → Any Q xs
any_weaker P Q f xs any = (any.0, any.1, any.2, any.3, f any.1 any.4)

known_is : (known : List (List ℕ)) (word : List ℕ) → Any (λ option. word ≡ option) known → is_known known word ≡ true
known_is known word any =
    list_any-from_Any (is_same word) known (any_weaker (λ option. word ≡ option) (λ option. is_same word option ≡ true)
    (λ option. word_same {word = word} {other = option}) known any)

is_known_one : (known : List (List ℕ)) (word : List ℕ) → is_known known word ≡ true
    → Any (λ option. word ≡ option) known
is_known_one known word e =
    any_weaker (λ option. is_same word option ≡ true) (λ option. word ≡ option) (λ option. same_word word option) known
    (Any-from_list_any (is_same word) known e)

pub are_said : (known : List (List ℕ)) (options : List Said) → AreSaid known options
    → are_options known (words_of options) ≡ true
are_said known [] all = refl
are_said known (said ∷ more) all =
    and_from (is_said_once known said.option (words_of more)) (are_options known (words_of more))
    (and_from (is_known known said.option) (is_none (value_of said.option (words_of more)))
    (known_is known said.option all.0) (ap is_none (lacks_value more said.option all.1)))
    (are_said known more all.2)

no_value : (value : Option (List ℕ)) → is_none value ≡ true → value ≡ None
no_value None e = refl
no_value (Some value) e = absurd cc

-- words as options with their values
pub record AsSaid (known words : List (List ℕ)) : Type 0 where
  pub options : List Said
  pub are : words ≡ words_of options
  pub all : AreSaid known options

pub as_said : (known words : List (List ℕ)) → are_options known words ≡ true → AsSaid known words
as_said known [] e = record { options = []; are = refl; all = tt }
as_said known (option ∷ []) e = absurd cc
as_said known (option ∷ value ∷ rest) e =
    let parts = and_parts (is_said_once known option rest) (are_options known rest) e in
    let once = and_parts (is_known known option) (is_none (value_of option rest)) parts.0 in
    let more = as_said known rest parts.1 in
    let alone : value_of option (words_of more.options) ≡ None =
    subst (λ w. value_of option w ≡ None) more.are (no_value (value_of option rest) once.1) in
    record {
      options = record { option = option; value = value } ∷ more.options;
      are = ap (λ w. option ∷ value ∷ w) more.are;
      all = (is_known_one known option once.0, value_lacks more.options option alone, more.all);
    }

-- ---- numbers

pub number_read : {least most : ℕ} {default : Option ℕ} (known : List (List ℕ)) {option : List ℕ} {options : List Said}
    {number : ℕ}
    → most < 1000000 → AreSaid known options → SaysNumber least most default option options number
    → number_said least most default (value_of option (words_of options)) ≡ Some number
number_read {least} {most} {default} known {option} {options} {number} few all (written has low high) =
    ap (number_said least most default) (has_value known options option (decimal number) all has)
    ∙ said_within least most number few low high
number_read {least} {most} {default} known {option} {options} few all (unsaid lacks is) =
    ap (number_said least most default) (lacks_value options option lacks) ∙ is

pub number_says : (least most : ℕ) (default : Option ℕ) (option : List ℕ) (options : List Said) (number : ℕ)
    → number_said least most default (value_of option (words_of options)) ≡ Some number
    → SaysNumber least most default option options number
number_says least most default option options number e = by_value (value_of option (words_of options)) refl e
  where
    by_value : (value : Option (List ℕ)) → value_of option (words_of options) ≡ value
        → number_said least most default value ≡ Some number → SaysNumber least most default option options number
    by_value None is e = unsaid (value_lacks options option is) e
    by_value (Some value) is e =
        let said = says least most value number e in
        written (value_has options option (decimal number) (is ∙ ap (λ v. Some v) said.is)) said.low said.high
