-- A line tells whose it is.
use Rattle.std.specs.Prelude.{◌≡◌, ℕ, zero, suc, ◌+◌, ◌<◌, Bool, true, false, not, ◌==◌}
use Rattle.std.specs.Prelude.{cond, if◌then◌else◌, List, [], ◌∷◌, ◌++◌, length, drop, codes, decimal}
use Rattle.std.specs.Prelude.{Option, Some}
use Rattle.std.specs.List.{before_first}
use Rattle.std.proofs.Common.{refl, sym, ap, subst, ◌∙◌, arith, true≢false, append_assoc, eq-eqb}
use Rattle.std.proofs.lemmas.Bool.{and_parts, or_parts, not-true, eqb-true, false_from_ne_true}
use Rattle.std.proofs.lemmas.{List.Sums.take_while-cons, List.length-map, List.get_or-map}
use Rattle.fault_words.specs.Name.{is_name, is_bare_name}
use Rattle.fault_words.specs.Names.{same_name, has_name, all_differ}
use Rattle.crew_script.specs.Dockets.{IsDockets, names_of, crew_at, ask_at}
use Rattle.crew_script.specs.{declared.dockets.Ask.Ask, declared.dockets.Crew.Crew}
use Rattle.crew_script.specs.declared.dockets.Ask.TheVariants.{Take, Return, Margin}
use Rattle.outage_board.specs.{declared.entry.Entry.Entry, Requests.crew_from}
use Rattle.text_pieces.specs.Shown.{show}
use Rattle.board_report.specs.LogText.{ask_text, entry_end, entry_line}
use Rattle.board_report.proofs.ShownNames.{avoids, bare_first, no_blank, no_quote}
use Rattle.board_audit.specs.Front.{front_name, crew_in_front, crew_of_line}
use Rattle.board_audit.specs.Pieces.{behind, past}
use Rattle.board_audit.proofs.PieceLemmas.{behind-self, then_past}
use lib.Pointwise.{bytes_decides}

-- ---- names

-- what stands in front of a mark
before_mark : (mark : ℕ) (name rest : List ℕ) → avoids mark name ≡ true
    → before_first (λ byte. byte == mark) (name ++ mark ∷ rest) ≡ name
before_mark mark [] rest none =
    take_while-cons (λ byte. not (byte == mark)) mark rest
    ∙ ap (λ same. cond (not same) (mark ∷ before_first (λ byte. byte == mark) rest) []) (eq-eqb mark mark refl)
before_mark mark (byte ∷ name) rest none =
    let parts = and_parts (not (byte == mark)) (avoids mark name) none in
    take_while-cons (λ b. not (b == mark)) byte (name ++ mark ∷ rest)
    ∙ ap (λ other. cond other (byte ∷ before_first (λ b. b == mark) (name ++ mark ∷ rest)) []) parts.0
    ∙ ap (λ l. byte ∷ l) (before_mark mark name rest parts.1)

-- a bare name is what stands in front of a blank
bare_front : (first : ℕ) (rest behind : List ℕ) → is_bare_name (first ∷ rest) ≡ true
    → front_name ((first ∷ rest) ++ 32 ∷ behind) ≡ first ∷ rest
bare_front first rest behind e =
    ap (λ quote. if quote then before_first (λ byte. byte == 34) (rest ++ 32 ∷ behind)
    else before_first (λ byte. byte == 32) ((first ∷ rest) ++ 32 ∷ behind))
    (false_from_ne_true (first == 34)
    (λ quote. bare_first (first ∷ rest) [] e (ap (λ (z : ℕ). z ∷ (rest ++ [])) (eqb-true first 34 quote))))
    ∙ before_mark 32 (first ∷ rest) behind (no_blank (first ∷ rest) e)

quoted_front : (name behind : List ℕ) → is_name name ≡ true
    → front_name ((codes "\"" ++ name ++ codes "\"") ++ 32 ∷ behind) ≡ name
quoted_front name behind e =
    ap front_name (append_assoc (codes "\"" ++ name) (codes "\"") (32 ∷ behind))
    ∙ before_mark 34 name (32 ∷ behind) (no_quote name e)

-- the name that is shown in front of a blank
shown_front : (name behind : List ℕ) → is_name name ≡ true → front_name (show name ++ 32 ∷ behind) ≡ name
shown_front name behind e = by_form name (is_bare_name name) refl e
  where
    by_form : (name : List ℕ) (bare : Bool) → is_bare_name name ≡ bare → is_name name ≡ true
        → front_name (show name ++ 32 ∷ behind) ≡ name
    by_form [] true is form = absurd (true≢false (sym is))
    by_form (first ∷ rest) true is form =
        ap (λ b. front_name ((if b then first ∷ rest else codes "\"" ++ (first ∷ rest) ++ codes "\"") ++ 32 ∷ behind))
        is
        ∙ bare_front first rest behind is
    by_form name false is form =
        ap (λ b. front_name ((if b then name else codes "\"" ++ name ++ codes "\"") ++ 32 ∷ behind)) is
        ∙ quoted_front name behind form

-- what is left of a text behind the number of a line tells its crew
pub crew_by_front : (crews : List Crew) (number : ℕ) (text : List ℕ) (start first second : Option (List ℕ))
    {left : Option (List ℕ)} → start ≡ Some text → first ≡ past (decimal number) start
    → second ≡ past (codes " ") first → left ≡ second
    → crew_in_front crews left ≡ crew_of_line crews number text
crew_by_front crews number text start first second whole digits blank is =
    ap (crew_in_front crews) (is ∙ then_past start (decimal number) (codes " ") digits blank
    ∙ ap (past (decimal number ++ codes " ")) whole)

-- ---- crews

other_named : (name : List ℕ) (crews : List Crew) (i : ℕ) → has_name (names_of crews) name ≡ false → i < length crews
    → same_name name (crew_at crews i).name ≡ false
other_named name [] i none low = absurd (omega (arith, low))
other_named name (crew ∷ crews) zero none low =
    (or_parts (same_name name crew.name) (has_name (names_of crews) name) none).0
other_named name (crew ∷ crews) (suc i) none low =
    other_named name crews i (or_parts (same_name name crew.name) (has_name (names_of crews) name) none).1
    (omega (arith, low))

-- a crew is found by its name
crew_from-at : (crews : List Crew) (number i : ℕ) → all_differ (names_of crews) ≡ true → i < length crews
    → crew_from number crews (crew_at crews i).name ≡ Some (record { 0 = number + i })
crew_from-at [] number i differ low = absurd (omega (arith, low))
crew_from-at (crew ∷ crews) number zero differ low =
    ap (λ b. if b then Some (record { 0 = number }) else crew_from (suc number) crews crew.name)
    ((bytes_decides crew.name crew.name).1 refl)
    ∙ ap (λ n. Some (record { 0 = n })) (let e : number ≡ number + 0 = omega arith in e)
crew_from-at (crew ∷ crews) number (suc i) differ low =
    let parts = and_parts (not (has_name (names_of crews) crew.name)) (all_differ (names_of crews)) differ in
    let name = (crew_at crews i).name in
    ap (λ b. if b then Some (record { 0 = number }) else crew_from (suc number) crews name)
    (other_named crew.name crews i (not-true (has_name (names_of crews) crew.name) parts.0) (omega (arith, low)))
    ∙ crew_from-at crews (suc number) i parts.1 (omega (arith, low))
    ∙ ap (λ n. Some (record { 0 = n })) (let e : suc number + i ≡ number + suc i = omega arith in e)

-- each crew has a name
named_at : (crews : List Crew) (i : ℕ) → IsDockets crews → i < length crews → is_name (crew_at crews i).name ≡ true
named_at crews i kept low =
    let name : Crew → List ℕ = λ crew. crew.name in
    let there : i < length (names_of crews) = omega (arith, low, length-map crews name) in
    subst (λ (n : List ℕ). is_name n ≡ true) (get_or-map name crews i (record { name = []; docket = [] }) [] low)
    (kept.named.names i [] there)

-- ---- lines

-- what is asked begins with a blank
asked_behind : (ask : Ask) (rest : List ℕ) → ask_text ask ++ rest ≡ 32 ∷ drop 1 (ask_text ask ++ rest)
asked_behind (Take names) rest = refl
asked_behind (Return name) rest = refl
asked_behind (Margin number) rest = refl

split : (number shown ask end more : List ℕ) → ((number ++ (32 ∷ shown)) ++ (ask ++ end)) ++ more
    ≡ (number ++ 32 ∷ []) ++ (shown ++ (ask ++ (end ++ more)))
split number shown ask end more =
    append_assoc (number ++ (32 ∷ shown)) (ask ++ end) more ∙ append_assoc number (32 ∷ shown) ((ask ++ end) ++ more)
    ∙ ap (λ l. number ++ (32 ∷ (shown ++ l))) (append_assoc ask end more)
    ∙ sym (append_assoc number (32 ∷ []) (shown ++ (ask ++ (end ++ more))))

-- a line is of the crew of its entry
pub line_tells : (crews : List Crew) (number : ℕ) (entry : Entry) (rest : List ℕ) → IsDockets crews
    → entry.crew.0 < length crews
    → crew_of_line crews number (entry_line crews number entry ++ rest) ≡ Some entry.crew
line_tells crews number entry rest kept low =
    let name = (crew_at crews entry.crew.0).name in
    let ask = ask_at crews entry.crew.0 entry.place in
    let end = entry_end crews entry.reply in
    let behind_it = ask_text ask ++ (end ++ rest) in
    ap (λ l. crew_in_front crews (behind (decimal number ++ codes " ") l))
    (split (decimal number) (show name) (ask_text ask) end rest)
    ∙ ap (crew_in_front crews) (behind-self (decimal number ++ codes " ") (show name ++ behind_it))
    ∙ ap (λ l. crew_from 0 crews (front_name (show name ++ l))) (asked_behind ask (end ++ rest))
    ∙ ap (crew_from 0 crews) (shown_front name (drop 1 behind_it) (named_at crews entry.crew.0 kept low))
    ∙ crew_from-at crews 0 entry.crew.0 kept.named.differ low
    ∙ ap (λ n. Some (record { 0 = n })) (let e : 0 + entry.crew.0 ≡ entry.crew.0 = omega arith in e)
