-- The log of a legal and whole history determines it.
use Rattle.std.specs.Prelude.{◌≡◌, ℕ, zero, suc, ◌+◌, ◌/◌, ◌%◌, ◌<◌, Bool, true, false, not, ◌==◌, nat_lt}
use Rattle.std.specs.Prelude.{if◌then◌else◌, List, [], ◌∷◌, ◌++◌, length, drop, codes, decimal, All}
use Rattle.std.specs.Fmt.{digits, digits_onto, digit_glyph}
use Rattle.std.proofs.Common.{refl, sym, ap, ◌∙◌, subst, arith, append_assoc, get_or, eq-eqb}
use Rattle.std.proofs.lemmas.Bool.{and_from, ne_eqb}
use Rattle.std.proofs.lemmas.List.Elements.{All-head, All-tail}
use Rattle.fault_words.specs.{Name.is_name, Names.all_differ}
use Rattle.crew_script.specs.Dockets.{names_of, crew_at, ask_at}
use Rattle.crew_script.specs.{declared.dockets.Ask.Ask, declared.dockets.Crew.Crew}
use Rattle.crew_script.specs.declared.dockets.Ask.TheVariants.{Take, Return, Margin}
use Rattle.margin_policy.specs.{Standing.StandingView, Standing.reply_of, declared.request.Request.Request}
use Rattle.outage_board.specs.declared.entry.Entry.{Entry}
use Rattle.outage_board.specs.Histories.{after_entry, IsLegal, IsWhole, asked_by, entries_of}
use Rattle.board_report.specs.LogText.{crew_shown, ask_text, entry_end, entry_line, entry_lines, log_head, log_text}
use Rattle.board_report.proofs.ShownNames.{avoids, cancelled, up_to_mark, shown_apart}
use Rattle.board_report.proofs.CrewNames.{same_crew}

-- ---- the number of entries ends with the line

glyph_apart : (digit : ℕ) (few : Bool) → not ((if few then 48 + digit else 87 + digit) == 10) ≡ true
glyph_apart digit true = ap not (ne_eqb (48 + digit) 10 (λ e. absurd (omega (arith, e))))
glyph_apart digit false = ap not (ne_eqb (87 + digit) 10 (λ e. absurd (omega (arith, e))))

digits_avoid : (turns n : ℕ) (behind : List ℕ) → avoids 10 behind ≡ true
    → avoids 10 (digits_onto turns 10 false n behind) ≡ true
digits_avoid zero n behind none = none
digits_avoid (suc turns) n behind none =
    let one_more =
    and_from (not (digit_glyph false (n % 10) == 10)) (avoids 10 behind) (glyph_apart (n % 10) (nat_lt (n % 10) 10))
    none in
    by_end (n / 10 == 0) one_more (digits_avoid turns (n / 10) (digit_glyph false (n % 10) ∷ behind) one_more)
  where
    by_end : (b : Bool) → avoids 10 (digit_glyph false (n % 10) ∷ behind) ≡ true
        → avoids 10 (digits_onto turns 10 false (n / 10) (digit_glyph false (n % 10) ∷ behind)) ≡ true
        → avoids 10 (if b then digit_glyph false (n % 10) ∷ behind
        else digits_onto turns 10 false (n / 10) (digit_glyph false (n % 10) ∷ behind)) ≡ true
    by_end true one more = one
    by_end false one more = more

decimal_avoids : (n : ℕ) → avoids 10 (decimal n) ≡ true
unfolding digits
decimal_avoids n = digits_avoid 64 n [] refl

head_apart : (m n : ℕ) {rest other : List ℕ} → log_head m ++ rest ≡ log_head n ++ other → rest ≡ other
head_apart m n {rest} {other} e =
    (up_to_mark 10 (decimal m) (decimal n) (decimal_avoids m) (decimal_avoids n)
    (sym (append_assoc (decimal m) (codes "\n") rest)
    ∙ cancelled (codes "log: ") {a = (decimal m ++ codes "\n") ++ rest} {b = (decimal n ++ codes "\n") ++ other} e
    ∙ append_assoc (decimal n) (codes "\n") other)).1

-- ---- the crew of a line

-- what is asked begins with a blank
asked_behind : (ask : Ask) (rest : List ℕ) → ask_text ask ++ rest ≡ 32 ∷ drop 1 (ask_text ask ++ rest)
asked_behind (Take names) rest = refl
asked_behind (Return name) rest = refl
asked_behind (Margin number) rest = refl

split : (number shown ask end more : List ℕ) → ((number ++ (32 ∷ shown)) ++ (ask ++ end)) ++ more
    ≡ number ++ (32 ∷ (shown ++ (ask ++ (end ++ more))))
split number shown ask end more =
    append_assoc (number ++ (32 ∷ shown)) (ask ++ end) more ∙ append_assoc number (32 ∷ shown) ((ask ++ end) ++ more)
    ∙ ap (λ l. number ++ (32 ∷ (shown ++ l))) (append_assoc ask end more)

module _ (crews : List Crew) where
  -- what follows the crew of a line
  behind_crew : Entry → List ℕ → List ℕ
  behind_crew entry more = ask_text (ask_at crews entry.crew.0 entry.place) ++ (entry_end crews entry.reply ++ more)

  line_parts : (number : ℕ) (entry : Entry) (more : List ℕ)
      → entry_line crews number entry ++ more ≡ decimal number
      ++ (32 ∷ (crew_shown crews entry.crew ++ behind_crew entry more))
  unfolding behind_crew
  line_parts number entry more =
      split (decimal number) (crew_shown crews entry.crew) (ask_text (ask_at crews entry.crew.0 entry.place))
      (entry_end crews entry.reply) more

  crew_named : (number : ℕ) (entry other : Entry) (more rest : List ℕ)
      → All (λ (crew : Crew). is_name crew.name ≡ true) crews
      → entry.crew.0 < length crews → other.crew.0 < length crews
      → entry_line crews number entry ++ more ≡ entry_line crews number other ++ rest
      → (crew_at crews entry.crew.0).name ≡ (crew_at crews other.crew.0).name
  unfolding behind_crew
  crew_named number entry other more rest names one two e =
      let shown =
      ap (drop 1) (cancelled (decimal number) (sym (line_parts number entry more) ∙ e
      ∙ line_parts number other rest)) in
      shown_apart _ _ (is_named entry.crew.0 one) (is_named other.crew.0 two)
      (ap (λ l. crew_shown crews entry.crew ++ l) (sym
      (asked_behind (ask_at crews entry.crew.0 entry.place) (entry_end crews entry.reply ++ more)))
      ∙ shown
      ∙ ap (λ l. crew_shown crews other.crew ++ l) (asked_behind (ask_at crews other.crew.0 other.place)
      (entry_end crews other.reply ++ rest)))
    where
      is_named : (number : ℕ) → number < length crews → is_name (crew_at crews number).name ≡ true
      is_named number short = names number (record { name = []; docket = [] }) short

-- ---- entries

same_entry : {entry other : Entry} → entry.crew ≡ other.crew → entry.place ≡ other.place → entry.request ≡ other.request
    → entry.reply ≡ other.reply → entry ≡ other
same_entry crew place request reply =
    λ i. record { crew = crew i; place = place i; request = request i; reply = reply i }

own_first : (crew : ℕ) (entry : Entry) (entries : List Entry) → entry.crew.0 ≡ crew
    → entries_of crew (entry ∷ entries) ≡ entry ∷ entries_of crew entries
own_first crew entry entries own =
    ap (λ b. if b then entry ∷ entries_of crew entries else entries_of crew entries) (eq-eqb entry.crew.0 crew own)

no_asked : {P : Type 0} {first : ℕ × Request} {more : List (ℕ × Request)} → [] ≡ first ∷ more → P
no_asked e = let clash = ap length e in absurd (omega (arith, clash))

-- the same was asked of each crew
abbrev AskAlike : List Entry → List Entry → Type 0
AskAlike entries others = (crew : ℕ) → asked_by (entries_of crew entries) ≡ asked_by (entries_of crew others)

none_left : {P : Type 0} (entry : Entry) (entries : List Entry) → AskAlike [] (entry ∷ entries) → P
none_left entry entries alike =
    no_asked (alike entry.crew.0 ∙ ap asked_by (own_first entry.crew.0 entry entries refl))

-- behind one and the same entry
alike_behind : (entry : Entry) (entries others : List Entry) → AskAlike (entry ∷ entries) (entry ∷ others)
    → AskAlike entries others
alike_behind entry entries others alike crew = by_crew (entry.crew.0 == crew) (alike crew)
  where
    by_crew : (own : Bool) → asked_by (if own then entry ∷ entries_of crew entries else entries_of crew entries)
        ≡ asked_by (if own then entry ∷ entries_of crew others else entries_of crew others)
        → asked_by (entries_of crew entries) ≡ asked_by (entries_of crew others)
    by_crew true e = ap (drop 1) e
    by_crew false e = e

first_alike : (entry other : Entry) (entries others : List Entry) → entry.crew.0 ≡ other.crew.0
    → AskAlike (entry ∷ entries) (other ∷ others)
    → (entry.place ≡ other.place) × (entry.request ≡ other.request)
first_alike entry other entries others same alike =
    let firsts : (entry.place, entry.request) ∷ asked_by (entries_of entry.crew.0 entries)
    ≡ (other.place, other.request) ∷ asked_by (entries_of entry.crew.0 others) =
    sym (ap asked_by (own_first entry.crew.0 entry entries refl)) ∙ alike entry.crew.0
    ∙ ap asked_by (own_first entry.crew.0 other others (sym same)) in
    let first : (entry.place, entry.request) ≡ (other.place, other.request) =
    ap (λ l. get_or l 0 (entry.place, entry.request)) firsts in
    (ap (λ (asked : ℕ × Request). asked.0) first, ap (λ (asked : ℕ × Request). asked.1) first)

-- ---- whole logs

module _ (crews : List Crew) (names : All (λ (crew : Crew). is_name crew.name ≡ true) crews)
    (differ : all_differ (names_of crews) ≡ true) where
  abbrev OfCrews : List Entry → Type 0
  OfCrews entries = All (λ (entry : Entry). entry.crew.0 < length crews) entries

  same_first : (number : ℕ) (standing : StandingView) (entry other : Entry) (entries others : List Entry)
      (more rest : List ℕ)
      → OfCrews (entry ∷ entries) → OfCrews (other ∷ others) → IsLegal standing (entry ∷ entries)
      → IsLegal standing (other ∷ others) → AskAlike (entry ∷ entries) (other ∷ others)
      → entry_line crews number entry ++ more ≡ entry_line crews number other ++ rest → entry ≡ other
  same_first number standing entry other entries others more rest one two legal also alike e =
      let short : entry.crew.0 < length crews = All-head (λ (e : Entry). e.crew.0 < length crews) entry entries one in
      let too : other.crew.0 < length crews = All-head (λ (e : Entry). e.crew.0 < length crews) other others two in
      let number_is =
      same_crew crews entry.crew.0 other.crew.0 differ short too
      (crew_named crews number entry other more rest names short too e) in
      let crew_is : entry.crew ≡ other.crew = λ i. record { 0 = number_is i } in
      let asked = first_alike entry other entries others number_is alike in
      same_entry crew_is asked.0 asked.1 (legal.0 ∙ (λ i. reply_of standing (crew_is i) (asked.1 i)) ∙ sym also.0)

  same_history : (entries others : List Entry) (standing : StandingView) (number : ℕ) → OfCrews entries → OfCrews others
      → IsLegal standing entries → IsLegal standing others
      → AskAlike entries others → entry_lines crews number entries ≡ entry_lines crews number others → entries ≡ others
  same_history [] [] standing number one two legal also alike e = refl
  same_history [] (other ∷ others) standing number one two legal also alike e = none_left other others alike
  same_history (entry ∷ entries) [] standing number one two legal also alike e =
      none_left entry entries (λ crew. sym (alike crew))
  same_history (entry ∷ entries) (other ∷ others) standing number one two legal also alike e =
      let first =
      same_first number standing entry other entries others (entry_lines crews (number + 1) entries)
      (entry_lines crews (number + 1) others) one two legal also alike e in
      let later = same_history entries others (after_entry standing entry) (number + 1)
      (All-tail (λ (e : Entry). e.crew.0 < length crews) entry entries one)
      (All-tail (λ (e : Entry). e.crew.0 < length crews) other others two)
      legal.1 (subst (λ e. IsLegal (after_entry standing e) others) (sym first) also.1)
      (alike_behind entry entries others (subst (λ e. AskAlike (entry ∷ entries) (e ∷ others)) (sym first) alike))
      (cancelled (entry_line crews number entry)
      (subst (λ e. entry_line crews number entry ++ entry_lines crews (number + 1) entries
      ≡ entry_line crews number e ++ entry_lines crews (number + 1) others) (sym first) e)) in
      ap (λ e. e ∷ entries) first ∙ ap (λ l. other ∷ l) later

  pub same_log : (standing : StandingView) {dockets : List (List Request)} {history other : List Entry}
      → length dockets ≡ length crews
      → IsLegal standing history → IsWhole dockets history → IsLegal standing other → IsWhole dockets other
      → log_text crews history ≡ log_text crews other → history ≡ other
  same_log standing {history} {other} all legal whole also too e =
      same_history history other standing 1 (subst (λ n. All (λ (entry : Entry). entry.crew.0 < n) history) all
      whole.crews) (subst (λ n. All (λ (entry : Entry). entry.crew.0 < n) other) all too.crews)
      legal also (λ crew. whole.each crew ∙ sym (too.each crew)) (head_apart (length history) (length other) e)
