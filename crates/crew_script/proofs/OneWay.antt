-- What lines stand for, or their first fault, is what is read of them.
use Rattle.std.proofs.Common.{◌≡◌, ℕ, ◌+◌, ◌<◌, ◌≤◌, true, false, List, [], ◌∷◌, ◌++◌, map, length, sym, refl, ap}
use Rattle.std.proofs.Common.{subst, ◌∙◌, arith, append_assoc, append-nil, length-append, inl, inr, le-leb}
use Rattle.std.specs.Prelude.{Result, Ok, Err, Some, None}
use Rattle.std.specs.List.{flat_map}
use Rattle.std.proofs.lemmas.Bool.{lt-leb}
use Rattle.fault_words.specs.{declared.place.Place.Place, Names.all_differ, Names.has_name}
use Rattle.crew_script.specs.{declared.dockets.TheConstants.MOST_CREWS, declared.dockets.TheConstants.MOST_REQUESTS}
use Rattle.crew_script.specs.{Dockets.names_of, Dockets.request_count, Says.Says, declared.dockets.Ask.Ask}
use Rattle.crew_script.specs.{declared.dockets.Crew.Crew, declared.line.Line.Line, declared.fault.CrewCode.CrewCode}
use Rattle.crew_script.specs.{declared.fault.CrewFault.CrewFault}
use Rattle.crew_script.specs.{declared.fault.CrewFault.TheVariants.Fault, declared.fault.CrewFault.TheVariants.NoMemory}
use Rattle.crew_script.specs.Crews.{said, after, with_ask, crew_fault, request_fault, fault_behind}
use Rattle.crew_script.specs.Crews.{unless_fault, crews_from}
use Rattle.crew_script.specs.CrewsOf.{Say, say_none, say_nothing, say_next, lines_for, AreCrews, HasFault, bad_line}
use Rattle.crew_script.specs.CrewsOf.{duplicate_crew, too_many_crews, request_before_crew, too_many_requests}
use Rattle.crew_script.specs.CrewsOf.{IsFirstFault, Answers}
use Rattle.crew_script.specs.declared.line.Line.TheVariants as line
use Rattle.crew_script.proofs.{NameLemmas.differ_at, Saying.says_one, Saying.says_read, Standing.fault_cases}
use Rattle.crew_script.proofs.DocketLemmas.{ask_last, names_more, count_more}

-- the crews behind what is said, where no line has a fault
abbrev after_all : List Crew → List Line → List Crew
after_all crews [] = crews
after_all crews (other ∷ more) = after_all (after crews other) more

abbrev AreClean : List Crew → List Line → Type 0
AreClean crews [] = Unit {0}
AreClean crews (other ∷ more) = (fault_behind crews other ≡ None) × AreClean (after crews other) more

-- one line of which it is known what it says
one_read : (number : ℕ) (crews : List Crew) {bytes : List ℕ} (lines : List (List ℕ)) {other : Line} → Says bytes other
    → crews_from number crews (bytes ∷ lines) ≡ unless_fault number (fault_behind crews other)
    (crews_from (number + 1) (after crews other) lines)
one_read number crews {bytes} lines {other} says =
    ap (λ l. unless_fault number (fault_behind crews l) (crews_from (number + 1) (after crews l) lines))
    (says_one bytes other says)

run : (number : ℕ) (crews : List Crew) {lines : List (List ℕ)} {all : List Line} → Say lines all → AreClean crews all
    → crews_from number crews lines ≡ Ok (after_all crews all)
run number crews say_none clean = refl
run number crews (say_nothing bytes lines more says rest) clean =
    one_read number crews lines says ∙ run (number + 1) crews rest clean
run number crews (say_next bytes other lines more says some rest) clean =
    one_read number crews lines says ∙ rw clean.0 (run (number + 1) (after crews other) rest clean.1)

-- ---- what is said for crews has no fault

crew_open : (crews : List Crew) (name : List ℕ) → has_name (names_of crews) name ≡ false → length crews < MOST_CREWS
    → crew_fault crews name ≡ None
crew_open crews name new few = rw (new, lt-leb MOST_CREWS (length crews) few) refl

request_open : (crews : List Crew) (crew : Crew) → request_count (crews ++ crew ∷ []) < MOST_REQUESTS
    → request_fault (crews ++ crew ∷ []) ≡ None
request_open [] crew few =
    rw (lt-leb MOST_REQUESTS (request_count (crew ∷ [])) few) refl
request_open (first ∷ crews) crew few =
    rw (lt-leb MOST_REQUESTS (request_count (first ∷ (crews ++ crew ∷ []))) few) refl

abbrev crew_with : List ℕ → List Ask → Crew
crew_with name docket = record { name = name; docket = docket }

record Ran (crews : List Crew) (all : List Line) (end : List Crew) : Type 0 where
  clean : AreClean crews all
  gives : after_all crews all ≡ end

docket_ran : (crews : List Crew) (name : List ℕ) (front back : List Ask) {rest : List Line} {end : List Crew}
    → request_count crews + length front + length back ≤ MOST_REQUESTS
    → Ran (crews ++ crew_with name (front ++ back) ∷ []) rest end
    → Ran (crews ++ crew_with name front ∷ []) (map line.Request back ++ rest) end
docket_ran crews name front [] {rest} {end} few ran =
    subst (λ d. Ran (crews ++ crew_with name d ∷ []) rest end) (append-nil front) ran
docket_ran crews name front (ask ∷ back) {rest} {end} few ran =
    let now = crews ++ crew_with name front ∷ [] in
    let next = crews ++ crew_with name (front ++ ask ∷ []) ∷ [] in
    let count = count_more crews (crew_with name front ∷ []) in
    let more : Ran next (map line.Request back ++ rest) end =
    docket_ran crews name (front ++ ask ∷ []) back
    (let long = length-append front (ask ∷ []) in omega (arith, few, long))
    (rw (append_assoc front (ask ∷ []) back) ran) in
    let moved : Ran (with_ask ask now) (map line.Request back ++ rest) end =
    rw (ask_last crews (crew_with name front) ask) more in
    record {
      clean = (request_open crews (crew_with name front) (omega (arith, few, count)), moved.clean);
      gives = moved.gives;
    }

crews_ran : (crews more : List Crew) → all_differ (names_of (crews ++ more)) ≡ true
    → length (crews ++ more) ≤ MOST_CREWS → request_count (crews ++ more) ≤ MOST_REQUESTS
    → Ran crews (flat_map lines_for more) (crews ++ more)
crews_ran crews [] differ few_crews few_requests = record { clean = tt; gives = sym (append-nil crews) }
crews_ran crews (crew ∷ more) differ few_crews few_requests =
    let whole : (crews ++ crew ∷ []) ++ more ≡ crews ++ crew ∷ more = append_assoc crews (crew ∷ []) more in
    let new =
    differ_at (names_of crews) crew.name (names_of more)
    (subst (λ l. all_differ l ≡ true) (names_more crews (crew ∷ more)) differ) in
    let long = length-append crews (crew ∷ more) in
    let count = count_more crews (crew ∷ more) in
    let rest : Ran (crews ++ crew ∷ []) (flat_map lines_for more) (crews ++ crew ∷ more) =
    subst (Ran (crews ++ crew ∷ []) (flat_map lines_for more)) whole
    (crews_ran (crews ++ crew ∷ []) more (subst (λ l. all_differ (names_of l) ≡ true) (sym whole) differ)
    (subst (λ l. length l ≤ MOST_CREWS) (sym whole) few_crews)
    (subst (λ l. request_count l ≤ MOST_REQUESTS) (sym whole) few_requests)) in
    let docket =
    docket_ran crews crew.name [] crew.docket (omega (arith, count, few_requests)) rest in
    record {
      clean = (crew_open crews crew.name new (omega (arith, long, few_crews)), docket.clean);
      gives = docket.gives;
    }

stands_one : (number : ℕ) {lines : List (List ℕ)} {crews : List Crew} → AreCrews lines crews
    → crews_from number [] lines ≡ Ok crews
stands_one number {crews} stand =
    let ran = crews_ran [] crews stand.differ stand.few_crews stand.few_requests in
    run number [] stand.say ran.clean ∙ ap Ok ran.gives

-- ---- the first fault

fault_is : {crews : List Crew} (bytes : List ℕ) (code : CrewCode) → HasFault crews bytes code
    → fault_behind crews (said bytes) ≡ Some code
fault_is _ _ (bad_line crews bytes never) = elim (says_read bytes) [
  | inl bad ↦ ap (fault_behind crews) bad
  | inr says ↦ absurd (never (said bytes) says)
]
fault_is _ _ (duplicate_crew crews bytes name says hit) =
    ap (fault_behind crews) (says_one bytes (line.Crew name) says) ∙ rw hit refl
fault_is _ _ (too_many_crews crews bytes name says miss many) =
    ap (fault_behind crews) (says_one bytes (line.Crew name) says)
    ∙ rw (miss, le-leb MOST_CREWS (length crews) many) refl
fault_is _ _ (request_before_crew bytes ask says) = ap (fault_behind []) (says_one bytes (line.Request ask) says)
fault_is _ _ (too_many_requests [] bytes ask says some many) = absurd (some refl)
fault_is _ _ (too_many_requests (first ∷ crews) bytes ask says some many) =
    ap (fault_behind (first ∷ crews)) (says_one bytes (line.Request ask) says)
    ∙ rw (le-leb MOST_REQUESTS (request_count (first ∷ crews)) many) refl

-- lines behind others that have no fault
read_on : (number : ℕ) (crews : List Crew) (lines more : List (List ℕ)) (end : List Crew)
    → crews_from number crews lines ≡ Ok end
    → crews_from number crews (lines ++ more) ≡ crews_from (number + length lines) end more
read_on number crews [] more end same =
    let is : crews ≡ end = grind (arith, same) in
    let plus : number ≡ number + 0 = omega arith in
    ap (λ l. crews_from number l more) is ∙ ap (λ n. crews_from n end more) plus
read_on number crews (bytes ∷ lines) more end same = elim (fault_cases (fault_behind crews (said bytes))) [
  | inl none ↦
      let plus : number + 1 + length lines ≡ number + length (bytes ∷ lines) = omega arith in
      rw none (read_on (number + 1) (after crews (said bytes)) lines more end (rw none at same)
      ∙ ap (λ n. crews_from n end more) plus)
  | inr some ↦ let clash = rw some.1 at same in absurd cc
]

faults_one : {number : ℕ} {lines : List (List ℕ)} {code : CrewCode} {place : Place}
    → IsFirstFault number lines code place
    → crews_from number [] lines ≡ Err (Fault code place)
faults_one {number} {code} {place} first =
    let at = number + length first.before in
    let rest = crews_from (at + 1) (after first.crews (said first.bytes)) first.behind in
    ap (crews_from number []) first.split
    ∙ read_on number [] first.before (first.bytes ∷ first.behind) first.crews (stands_one number first.stand)
    ∙ ap (λ f. unless_fault at f rest) (fault_is first.bytes code first.has)
    ∙ ap (λ l. Err (Fault code (record { line = l; column = 1 }))) (sym first.line)
    ∙ ap (λ k. Err (Fault code (record { line = place.line; column = k }))) (sym first.column)

pub one_answer : (number : ℕ) (lines : List (List ℕ)) (read : Result (List Crew) CrewFault) → Answers number lines read
    → crews_from number [] lines ≡ read
one_answer number lines (Ok crews) stand = stands_one number stand
one_answer number lines (Err (Fault code place)) first = faults_one first
one_answer number lines (Err NoMemory) never = absurd never
