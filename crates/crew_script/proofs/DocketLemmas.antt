-- Crews and their requests, and what one line more makes of them.
use Rattle.std.proofs.Common.{◌≡◌, ℕ, zero, suc, ◌+◌, ◌-◌, ◌<◌, ◌≤◌, true, false, List, [], ◌∷◌, ◌++◌, length}
use Rattle.std.proofs.Common.{refl, ap, ◌∙◌, subst, arith, length-append, inl, inr, set, get_or}
use Rattle.std.specs.{Prelude.None, List.All}
use Rattle.std.proofs.lemmas.Bool.{cases_Bool, or_left, or_right}
use Rattle.std.proofs.lemmas.List.{map-append}
use Rattle.std.proofs.lemmas.List.Elements.{All-push, All-nil, All-cons, All-head, All-tail}
use Rattle.fault_words.specs.Names.{has_name, same_name}
use Rattle.fault_words.specs.Name.{is_name}
use Rattle.crew_script.specs.declared.dockets.TheConstants.{MOST_CREWS, MOST_REQUESTS}
use Rattle.crew_script.specs.Dockets.{crew_at, names_of, request_count, HasMargin, HasMargins, IsDockets}
use Rattle.crew_script.specs.Crews.{with_ask, crew_fault, request_fault}
use Rattle.crew_script.specs.declared.dockets.Ask.{Ask}
use Rattle.crew_script.specs.declared.dockets.Crew.{Crew}
use Rattle.crew_script.proofs.NameLemmas.{differ_push}

-- a docket has no more requests than all have
pub docket_within : (crews : List Crew) (number : ℕ) → number < length crews
    → length (crew_at crews number).docket ≤ request_count crews
docket_within [] number within = absurd (omega (arith, within))
docket_within (crew ∷ crews) zero within = omega arith
docket_within (crew ∷ crews) (suc number) within =
    let more = docket_within crews number (omega (arith, within)) in
    omega (arith, more)

abbrev pub named : List ℕ → Crew
named name = record { name = name; docket = [] }

abbrev pub more_asked : Ask → Crew → Crew
more_asked ask crew = record crew { docket = crew.docket ++ ask ∷ [] }

pub names_more : (crews more : List Crew) → names_of (crews ++ more) ≡ names_of crews ++ names_of more
names_more crews more = map-append (λ (crew : Crew). crew.name) crews more

pub count_more : (crews more : List Crew) → request_count (crews ++ more) ≡ request_count crews + request_count more
count_more [] more = omega arith
count_more (first ∷ crews) more = omega (arith, count_more crews more)

-- a crew at some place has the name
pub has_at : (crews : List Crew) (name : List ℕ) (place : ℕ) {crew : Crew} → place < length crews
    → crew ≡ get_or crews place crew → same_name name crew.name ≡ true → has_name (names_of crews) name ≡ true
has_at [] name place within is same = absurd (omega (arith, within))
has_at (first ∷ crews) name zero within is same =
    or_left (same_name name first.name) (has_name (names_of crews) name)
    (subst (λ (c : Crew). same_name name c.name ≡ true) is same)
has_at (first ∷ crews) name (suc place) within is same =
    or_right (same_name name first.name) (has_name (names_of crews) name)
    (has_at crews name place (omega (arith, within)) is same)

pub ask_last : (crews : List Crew) (crew : Crew) (ask : Ask)
    → with_ask ask (crews ++ crew ∷ []) ≡ crews ++ more_asked ask crew ∷ []
ask_last [] crew ask = refl
ask_last (first ∷ []) crew ask = refl
ask_last (first ∷ second ∷ crews) crew ask = ap (λ l. first ∷ l) (ask_last (second ∷ crews) crew ask)

-- a name is new among the crews, and there is room for one more
pub crew_new : (crews : List Crew) (name : List ℕ) → crew_fault crews name ≡ None
    → has_name (names_of crews) name ≡ false
crew_new crews name none = elim (cases_Bool (has_name (names_of crews) name)) [
  | inl hit ↦ grind (arith, none, hit)
  | inr miss ↦ miss
]

pub crew_room : (crews : List Crew) (name : List ℕ) → crew_fault crews name ≡ None → length crews < MOST_CREWS
crew_room crews name none = grind (arith, none)

pub request_room : (crews : List Crew) → request_fault crews ≡ None → request_count crews < MOST_REQUESTS
request_room [] none = absurd cc
request_room (crew ∷ crews) none = grind (arith, none)

-- what is kept of crews and of the number of their requests
abbrev pub Keeps : List Crew → ℕ → Type 0
Keeps crews total = IsDockets crews × (total ≡ request_count crews)

-- a new crew
pub dockets_crew : (crews : List Crew) (total : ℕ) (name : List ℕ) → is_name name ≡ true → Keeps crews total
    → crew_fault crews name ≡ None → Keeps (crews ++ named name ∷ []) total
dockets_crew crews total name form (kept, counted) none =
    let count = count_more crews (named name ∷ []) in (
      record {
        few_crews = omega (arith, crew_room crews name none, length-append crews (named name ∷ []));
        named = record {
          names = rw (names_more crews (named name ∷ []))
              (All-push (λ n. is_name n ≡ true) (names_of crews) name kept.named.names form);
          differ = rw (names_more crews (named name ∷ []))
              (differ_push (names_of crews) name kept.named.differ (crew_new crews name none));
        };
        few_requests = omega (arith, kept.few_requests, count);
        margins = All-push HasMargins crews (named name) kept.margins (All-nil HasMargin);
      },
      omega (arith, counted, count),
    )

-- ---- one more request of the last crew

pub ask_names : (crews : List Crew) (ask : Ask) → names_of (with_ask ask crews) ≡ names_of crews
ask_names [] ask = refl
ask_names (crew ∷ []) ask = refl
ask_names (crew ∷ next ∷ crews) ask = ap (λ l. crew.name ∷ l) (ask_names (next ∷ crews) ask)

pub ask_length : (crews : List Crew) (ask : Ask) → length (with_ask ask crews) ≡ length crews
ask_length [] ask = refl
ask_length (crew ∷ []) ask = refl
ask_length (crew ∷ next ∷ crews) ask = omega (arith, ask_length (next ∷ crews) ask)

pub ask_count : (crew : Crew) (crews : List Crew) (ask : Ask)
    → request_count (with_ask ask (crew ∷ crews)) ≡ request_count (crew ∷ crews) + 1
ask_count crew [] ask = omega (arith, length-append crew.docket (ask ∷ []))
ask_count crew (next ∷ crews) ask = let more = ask_count next crews ask in omega (arith, more)

ask_margins : (crews : List Crew) (ask : Ask) → All HasMargins crews → HasMargin ask
    → All HasMargins (with_ask ask crews)
ask_margins [] ask each margin = each
ask_margins (crew ∷ []) ask each margin =
    All-cons HasMargins (more_asked ask crew) [] (All-push HasMargin crew.docket ask (All-head HasMargins crew [] each)
    margin) (All-nil HasMargins)
ask_margins (crew ∷ next ∷ crews) ask each margin =
    All-cons HasMargins crew (with_ask ask (next ∷ crews)) (All-head HasMargins crew (next ∷ crews) each)
    (ask_margins (next ∷ crews) ask (All-tail HasMargins crew (next ∷ crews) each) margin)

pub dockets_request : (crews : List Crew) (total : ℕ) (ask : Ask) → Keeps crews total → request_fault crews ≡ None
    → HasMargin ask → Keeps (with_ask ask crews) (total + 1)
dockets_request [] total ask keeps none margin = absurd cc
dockets_request (crew ∷ crews) total ask (kept, counted) none margin = (
  record {
    few_crews = omega (arith, kept.few_crews, ask_length (crew ∷ crews) ask);
    named = record {
      names = rw (ask_names (crew ∷ crews) ask) kept.named.names;
      differ = rw (ask_names (crew ∷ crews) ask) kept.named.differ;
    };
    few_requests = omega (arith, request_room (crew ∷ crews) none, ask_count crew crews ask);
    margins = ask_margins (crew ∷ crews) ask kept.margins margin;
  },
  omega (arith, counted, ask_count crew crews ask),
)

-- the last crew by its place
ask_there : (crew : Crew) (crews : List Crew) (ask : Ask) (d : Crew)
    → set (crew ∷ crews) (length crews) (more_asked ask (get_or (crew ∷ crews) (length crews) d))
    ≡ with_ask ask (crew ∷ crews)
ask_there crew [] ask d = refl
ask_there crew (next ∷ crews) ask d = ap (λ l. crew ∷ l) (ask_there next crews ask d)

pub ask_placed : (crews : List Crew) {count : ℕ} {last : Crew} (ask : Ask) {docket : List Ask}
    → request_fault crews ≡ None → count ≡ length crews → last ≡ get_or crews (count - 1) last
    → docket ≡ last.docket ++ ask ∷ []
    → set crews (count - 1) (record { name = last.name; docket = docket }) ≡ with_ask ask crews
ask_placed [] ask none counted at asked = absurd cc
ask_placed (crew ∷ crews) {count} {last} ask {docket} none counted at asked =
    let place : count - 1 ≡ length crews = omega (arith, counted) in
    ap (λ d. set (crew ∷ crews) (count - 1) (record { name = last.name; docket = d })) asked
    ∙ ap (λ n. set (crew ∷ crews) n (more_asked ask last)) place
    ∙ ap (λ l. set (crew ∷ crews) (length crews) (more_asked ask l))
    (at ∙ ap (λ n. get_or (crew ∷ crews) n last) place)
    ∙ ask_there crew crews ask last
