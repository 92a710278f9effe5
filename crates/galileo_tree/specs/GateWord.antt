-- The words that say what a gate does.
use Rattle.std.specs.Prelude.{ℕ, ◌&&◌, if◌then◌else◌, List, length, take, drop}
use Rattle.std.specs.Prelude.{nat_lt, codes, Option, Some, None}
use Rattle.std.specs.{List.prefix_len, Char.is_ascii_digit, Str.str_eq_ignore_ascii_case}
use Rattle.fault_words.specs.declared.kind.GateKind.{GateKind}
use Rattle.fault_words.specs.declared.kind.GateKind.TheVariants.{And, Or, Votes, Pand, Por, Seq, Fdep, Csp, Wsp, Hsp}
use Rattle.decimal_numerals.specs.Numeral.{are_digits, number_from}
use Rattle.galileo_tree.specs.Lexeme.{Lexeme, is_word_kind}

-- the kind of `KofN`, where these three make one
abbrev pub votes_if : List ℕ → List ℕ → List ℕ → Option GateKind
votes_if front of back =
    if are_digits 9 front && str_eq_ignore_ascii_case of (codes "of") && are_digits 9 back
    then Some (Votes (number_from 0 front) (number_from 0 back)) else None

-- digits, the two bytes behind them, and the rest
abbrev pub votes_behind : List ℕ → List ℕ → Option GateKind
votes_behind front behind =
    if nat_lt (length behind) 2 then None else votes_if front (take 2 behind) (drop 2 behind)

-- K, `of` and N
abbrev pub votes_of : List ℕ → Option GateKind
votes_of word = let size = prefix_len is_ascii_digit word in votes_behind (take size word) (drop size word)

-- the kind that a word says, in any case
unfoldable pub gate_word : List ℕ → Option GateKind
gate_word word =
    if str_eq_ignore_ascii_case word (codes "and") then Some And
    else (if str_eq_ignore_ascii_case word (codes "or") then Some Or
    else (if str_eq_ignore_ascii_case word (codes "pand") then Some Pand
    else (if str_eq_ignore_ascii_case word (codes "por") then Some Por
    else (if str_eq_ignore_ascii_case word (codes "seq") then Some Seq
    else (if str_eq_ignore_ascii_case word (codes "fdep") then Some Fdep
    else (if str_eq_ignore_ascii_case word (codes "csp") then Some Csp
    else (if str_eq_ignore_ascii_case word (codes "wsp") then Some Wsp
    else (if str_eq_ignore_ascii_case word (codes "hsp") then Some Hsp
    else votes_of word))))))))

-- the kind that a lexeme says
unfoldable pub kind_said : Lexeme → Option GateKind
kind_said lexeme = if is_word_kind lexeme.kind then gate_word lexeme.text else None
