-- What is read of lines is what they stand for, or their first fault.
use Rattle.std.proofs.Common.{◌≡◌, ◌≢◌, ℕ, ◌+◌, List, [], ◌∷◌, ◌++◌, length, sym, refl, ap, subst, ◌∙◌}
use Rattle.std.proofs.Common.{arith, append_assoc, append-nil, length-append, inl, inr}
use Rattle.std.specs.Prelude.{◌⊎◌, Option, Some, None, nat_le}
use Rattle.std.specs.List.{flat_map}
use Rattle.std.proofs.{lemmas.Bool.cases_Bool, lemmas.Bool.leb-true, lemmas.List.map-append}
use Rattle.std.proofs.{lemmas.List.Concat.flat_map-append}
use Rattle.fault_words.specs.Names.{has_name}
use Rattle.crew_script.specs.{declared.dockets.TheConstants.MOST_CREWS, declared.dockets.TheConstants.MOST_REQUESTS}
use Rattle.crew_script.specs.{Dockets.names_of, Dockets.request_count, declared.dockets.Ask.Ask}
use Rattle.crew_script.specs.{declared.dockets.Crew.Crew, declared.line.Line.Line, declared.fault.CrewCode.CrewCode}
use Rattle.crew_script.specs.Crews.{said, after, with_ask, fault_behind}
use Rattle.crew_script.specs.Crews.{crews_from}
use Rattle.crew_script.specs.Says.{Says, says_blank, says_comment, says_crew, says_take, says_return, says_margin}
use Rattle.crew_script.specs.CrewsOf.{Say, say_none, say_nothing, say_next, lines_for, AreCrews, HasFault, bad_line}
use Rattle.crew_script.specs.CrewsOf.{duplicate_crew, too_many_crews, request_before_crew, too_many_requests, Answers}
use Rattle.crew_script.specs.declared.line.Line.TheVariants as line
use Rattle.crew_script.specs.declared.fault.CrewCode.TheVariants.{BadLine, DuplicateCrew, RequestBeforeCrew}
use Rattle.crew_script.specs.declared.fault.CrewCode.TheVariants.{TooManyCrews, TooManyRequests}
use Rattle.crew_script.proofs.{NameLemmas.differ_push, Saying.says_one, Saying.says_read}
use Rattle.crew_script.proofs.DocketLemmas.{named, more_asked, names_more, count_more, crew_new, crew_room}
use Rattle.crew_script.proofs.DocketLemmas.{request_room, ask_names, ask_length, ask_count}

say_append : {lines more : List (List ℕ)} {a b : List Line} → Say lines a → Say more b → Say (lines ++ more) (a ++ b)
say_append say_none second = second
say_append {more} {b} (say_nothing bytes lines a says rest) second =
    say_nothing bytes (lines ++ more) (a ++ b) says (say_append rest second)
say_append {more} {b} (say_next bytes other lines a says some rest) second =
    say_next bytes other (lines ++ more) (a ++ b) says some (say_append rest second)

-- ---- one more request

ask_lines : (first : Crew) (crews : List Crew) (ask : Ask)
    → flat_map lines_for (with_ask ask (first ∷ crews)) ≡ flat_map lines_for (first ∷ crews) ++ line.Request ask ∷ []
ask_lines first [] ask =
    append-nil (lines_for (more_asked ask first))
    ∙ ap (λ l. line.Crew first.name ∷ l) (map-append line.Request first.docket (ask ∷ []))
    ∙ ap (λ l. l ++ line.Request ask ∷ []) (sym (append-nil (lines_for first)))
ask_lines first (next ∷ crews) ask =
    ap (λ l. lines_for first ++ l) (ask_lines next crews ask)
    ∙ sym (append_assoc (lines_for first) (flat_map lines_for (next ∷ crews)) (line.Request ask ∷ []))

-- ---- one more line

-- what is said of a line that is of a form
says_it : (bytes : List ℕ) {other : Line} → said bytes ≡ other → other ≢ line.Bad → Says bytes other
says_it bytes same some = elim (says_read bytes) [
  | inl bad ↦ absurd (some (sym same ∙ bad))
  | inr says ↦ subst (Says bytes) same says
]

say_one : {bytes : List ℕ} {other : Line} → Says bytes other → other ≢ line.Nothing → Say (bytes ∷ []) (other ∷ [])
say_one {bytes} {other} says some = say_next bytes other [] [] says some say_none

stands_on : {before : List (List ℕ)} (crews : List Crew) (bytes : List ℕ) (other : Line) → AreCrews before crews
    → said bytes ≡ other
    → fault_behind crews other ≡ None → AreCrews (before ++ bytes ∷ []) (after crews other)
stands_on {before} crews bytes line.Nothing stand same none = record {
  say = subst (Say (before ++ bytes ∷ [])) (append-nil (flat_map lines_for crews)) (say_append stand.say
      (say_nothing bytes [] [] (says_it bytes same (λ e. absurd cc)) say_none));
  differ = stand.differ;
  few_crews = stand.few_crews;
  few_requests = stand.few_requests;
}
stands_on crews bytes line.Bad stand same none = absurd cc
stands_on {before} crews bytes (line.Crew name) stand same none = record {
  say = rw (flat_map-append lines_for crews (named name ∷ []))
      (say_append stand.say (say_one (says_it bytes same (λ e. absurd cc)) (λ e. absurd cc)));
  differ = rw (names_more crews (named name ∷ []))
      (differ_push (names_of crews) name stand.differ (crew_new crews name none));
  few_crews = omega (arith, crew_room crews name none, length-append crews (named name ∷ []));
  few_requests = omega (arith, stand.few_requests, count_more crews (named name ∷ []));
}
stands_on [] bytes (line.Request ask) stand same none = absurd cc
stands_on {before} (first ∷ crews) bytes (line.Request ask) stand same none = record {
  say = rw (ask_lines first crews ask) (say_append stand.say
      (say_one (says_it bytes same (λ e. absurd cc)) (λ e. absurd cc)));
  differ = rw (ask_names (first ∷ crews) ask) stand.differ;
  few_crews = omega (arith, ask_length (first ∷ crews) ask, stand.few_crews);
  few_requests = omega (arith, request_room (first ∷ crews) none, ask_count first crews ask);
}

-- ---- a fault

code_or : Option CrewCode → CrewCode → CrewCode
code_or None other = other
code_or (Some code) other = code

some_code : (one two : CrewCode) → Some one ≡ Some two → one ≡ two
unfolding code_or
some_code one two same = ap (λ o. code_or o one) same

bad_unsaid : {bytes : List ℕ} {other : Line} → Says bytes other → other ≢ line.Bad
bad_unsaid (says_blank _ blank) = λ e. absurd cc
bad_unsaid (says_comment gap rest blank) = λ e. absurd cc
bad_unsaid (says_crew _ first name spells form is) = λ e. absurd cc
bad_unsaid (says_take _ first names spells form are taken) = λ e. absurd cc
bad_unsaid (says_return _ first name spells form is) = λ e. absurd cc
bad_unsaid (says_margin _ first word number spells form kind is) = λ e. absurd cc

has_fault : (crews : List Crew) (bytes : List ℕ) (other : Line) (code : CrewCode) → said bytes ≡ other
    → fault_behind crews other ≡ Some code → HasFault crews bytes code
has_fault crews bytes line.Nothing code same some = absurd cc
has_fault crews bytes line.Bad code same some =
    subst (HasFault crews bytes) (some_code BadLine code some)
    (bad_line crews bytes (λ other says. bad_unsaid says (sym (says_one bytes other says) ∙ same)))
has_fault crews bytes (line.Crew name) code same some =
    let says = says_it bytes same (λ e. absurd cc) in
    elim (cases_Bool (has_name (names_of crews) name)) [
      | inl hit ↦
          subst (HasFault crews bytes) (some_code DuplicateCrew code (rw hit at some))
          (duplicate_crew crews bytes name says hit)
      | inr miss ↦ elim (cases_Bool (nat_le MOST_CREWS (length crews))) [
        | inl many ↦
            subst (HasFault crews bytes) (some_code TooManyCrews code (rw (miss, many) at some))
            (too_many_crews crews bytes name says miss (leb-true MOST_CREWS (length crews) many))
        | inr few ↦ let clash = rw (miss, few) at some in absurd cc
      ]
    ]
has_fault [] bytes (line.Request ask) code same some =
    subst (HasFault [] bytes) (some_code RequestBeforeCrew code some)
    (request_before_crew bytes ask (says_it bytes same (λ e. absurd cc)))
has_fault (first ∷ crews) bytes (line.Request ask) code same some =
    elim (cases_Bool (nat_le MOST_REQUESTS (request_count (first ∷ crews)))) [
      | inl many ↦
          subst (HasFault (first ∷ crews) bytes) (some_code TooManyRequests code (rw many at some))
          (too_many_requests (first ∷ crews) bytes ask (says_it bytes same (λ e. absurd cc))
          (λ e. absurd cc) (leb-true MOST_REQUESTS (request_count (first ∷ crews)) many))
      | inr few ↦ let clash = rw few at some in absurd cc
    ]

-- ---- all lines

pub fault_cases : (found : Option CrewCode) → (found ≡ None) ⊎ ((code : CrewCode) × (found ≡ Some code))
fault_cases None = inl refl
fault_cases (Some code) = inr (code, refl)

answers : (number : ℕ) {before : List (List ℕ)} (lines : List (List ℕ)) {crews : List Crew} → AreCrews before crews
    → Answers number (before ++ lines) (crews_from (number + length before) crews lines)
answers number {before} [] {crews} stand = subst (λ l. AreCrews l crews) (sym (append-nil before)) stand
answers number {before} (bytes ∷ lines) {crews} stand = elim (fault_cases (fault_behind crews (said bytes))) [
  | inl none ↦
      let more =
      answers number {before = before ++ bytes ∷ []} lines (stands_on crews bytes (said bytes) stand refl none) in
      let next : number + length (before ++ bytes ∷ []) ≡ number + length before + 1 =
      omega (arith, length-append before (bytes ∷ [])) in
      rw (none, ← next, ← append_assoc before (bytes ∷ []) lines) more
  | inr some ↦ rw some.1 (record {
    before = before;
    bytes = bytes;
    behind = lines;
    crews = crews;
    split = refl;
    stand = stand;
    has = has_fault crews bytes (said bytes) some.0 refl some.1;
    line = refl;
    column = refl;
  })
]

none_stand : AreCrews [] []
none_stand = record { say = say_none; differ = refl; few_crews = omega arith; few_requests = omega arith }

pub answers_all : (number : ℕ) (lines : List (List ℕ)) → Answers number lines (crews_from number [] lines)
answers_all number lines =
    let same : number + 0 ≡ number = omega arith in
    subst (λ n. Answers number lines (crews_from n [] lines)) same (answers number lines none_stand)
