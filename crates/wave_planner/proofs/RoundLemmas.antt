-- The units of a wave go out and come back, wave after wave; and a history in which one crew asks for that.
use Rattle.std.specs.Prelude.{◌≡◌, ℕ, ◌+◌, ◌<◌, ◌≤◌, true, false, ◌||◌, ◌==◌, List, [], ◌∷◌, ◌++◌}
use Rattle.std.specs.Prelude.{map, length, take, All, Option, Some, None, is_none}
use Rattle.std.specs.List.{flat_map, enumerate_from}
use Rattle.std.proofs.Common.{refl, sym, ◌∙◌, ap, subst, arith, inl, inr, eq-eqb, eqb-true, length-set}
use Rattle.std.proofs.Common.{get_or-set_other, get_or-set_same}
use Rattle.std.proofs.lemmas.Bool.{cases_eq, cases_lt, ne_eqb, or_cases, or_from, or_parts, true≢false}
use Rattle.std.proofs.lemmas.List.{ext_get_or, get_or_past, length-replicate, map-append, take_all}
use Rattle.std.proofs.lemmas.List.Elements.{All-cons, All-head, All-nil, All-tail}
use Rattle.unit_sets.specs.{UnitList.among, declared.request.CrewNo.CrewNo}
use Rattle.fault_definitions.specs.Tree.{FaultTree, IsUnitOf, name_of, unit_count}
use Rattle.fault_definitions.specs.WellFormed.{IsTree}
use Rattle.crew_script.specs.declared.dockets.Ask.TheVariants as asks
use Rattle.margin_policy.specs.{Asked.has_repeat, Decide.decide_return, declared.request.Request.Request}
use Rattle.margin_policy.specs.declared.request.Request.TheVariants.{Take, Return}
use Rattle.margin_policy.specs.declared.request.Reply.TheVariants.{Granted}
use Rattle.margin_policy.specs.Held.{Held, holder_of, with_all_held, with_held, without_held}
use Rattle.margin_policy.specs.Standing.{StandingView, after, nothing_held, reply_of}
use Rattle.margin_policy.proofs.HeldLaws.{as_before_or_set, is_held-with_all_held, length-with_all_held}
use Rattle.margin_policy.proofs.HeldLemmas.{no_holder}
use Rattle.outage_board.specs.declared.entry.Entry.{Entry}
use Rattle.outage_board.specs.Histories.{after_entry, asked_by, entries_of, standing_after, IsLegal, IsWhole}
use Rattle.outage_board.specs.Requests.{request_of, requests_of, supervisor_of, unit_of, with_unit}
use Rattle.outage_board.proofs.NameLemmas.{named_is}
use Rattle.wave_planner.specs.Granted.{AreGranted, IsGrant, empty_board, planned_deck, take_one}
use Rattle.wave_planner.specs.{Waves.AreFirstFit, Waves.IsFree, WavesText.planner, WavesText.wave_asks}
use Rattle.wave_planner.proofs.FirstFitLemmas.{waves_have}
use Rattle.wave_planner.proofs.GrantLemmas.{can_all_go, nobody_holds, none_out, takes_granted}
use Rattle.wave_planner.proofs.KeptLemmas.{all_among, behind, itself, of_wanted, once_of_wanted}

-- ---- what granted requests leave

abbrev pub left_by : StandingView → CrewNo → List Request → StandingView
left_by standing crew [] = standing
left_by standing crew (request ∷ requests) = left_by (after standing crew request Granted) crew requests

both_granted : (standing : StandingView) (crew : CrewNo) (some more : List Request) → AreGranted standing crew some
    → AreGranted (left_by standing crew some) crew more → AreGranted standing crew (some ++ more)
both_granted standing crew [] more first later = later
both_granted standing crew (request ∷ some) more first later =
    (first.0, both_granted (after standing crew request Granted) crew some more first.1 later)

left_by_both : (standing : StandingView) (crew : CrewNo) (some more : List Request)
    → left_by standing crew (some ++ more) ≡ left_by (left_by standing crew some) crew more
left_by_both standing crew [] more = refl
left_by_both standing crew (request ∷ some) more =
    left_by_both (after standing crew request Granted) crew some more

-- ---- units that are taken

takes_leave : (standing : StandingView) (crew : CrewNo) (units : List ℕ)
    → left_by standing crew (map take_one units) ≡ record standing { held = with_all_held crew units standing.held }
takes_leave standing crew [] = refl
takes_leave standing crew (unit ∷ units) = takes_leave (after standing crew (take_one unit) Granted) crew units

still_held : (crew : CrewNo) (units : List ℕ) (held : Held) (unit : ℕ) → holder_of held unit ≡ Some crew
    → holder_of (with_all_held crew units held) unit ≡ Some crew
still_held crew [] held unit is = is
still_held crew (first ∷ units) held unit is =
    still_held crew units (with_held crew first held) unit
    (elim (as_before_or_set held first (Some crew) unit) [ inl before ↦ before ∙ is | inr now ↦ now ])

all_held : (crew : CrewNo) (units : List ℕ) (held : Held)
    → ((unit : ℕ) → among units unit ≡ true → unit < length held) → (unit : ℕ) → among units unit ≡ true
    → holder_of (with_all_held crew units held) unit ≡ Some crew
all_held crew [] held known unit has = absurd cc
all_held crew (first ∷ units) held known unit has = elim (or_cases (first == unit) (among units unit) has) [
  | inl same ↦
      let is : holder_of (with_held crew first held) first ≡ Some crew =
      get_or-set_same held first (Some crew) None (known first (itself first units)) in
      still_held crew units (with_held crew first held) unit
      (subst (λ (u : ℕ). holder_of (with_held crew first held) u ≡ Some crew) (eqb-true first unit same) is)
  | inr later ↦ all_held crew units (with_held crew first held)
      (λ u there. omega (arith, length-set held first (Some crew), known u (behind first u units there))) unit later
]

-- ---- units that come back

abbrev pub return_one : ℕ → Request
return_one unit = Return (Some unit)

abbrev without_all : List ℕ → Held → Held
without_all [] held = held
without_all (unit ∷ units) held = without_all units (without_held unit held)

returns_leave : (standing : StandingView) (crew : CrewNo) (units : List ℕ)
    → left_by standing crew (map return_one units) ≡ record standing { held = without_all units standing.held }
returns_leave standing crew [] = refl
returns_leave standing crew (unit ∷ units) = returns_leave (after standing crew (return_one unit) Granted) crew units

own_return : (crew : CrewNo) {holder : Option CrewNo} → holder ≡ Some crew → decide_return crew holder ≡ Granted
own_return crew is = rw (is, eq-eqb crew.0 crew.0 refl) refl

returns_granted : (standing : StandingView) (crew : CrewNo) (units : List ℕ) → has_repeat units ≡ false
    → ((unit : ℕ) → among units unit ≡ true → holder_of standing.held unit ≡ Some crew)
    → AreGranted standing crew (map return_one units)
returns_granted standing crew [] differ own = tt
returns_granted standing crew (unit ∷ units) differ own =
    let parts = or_parts (among units unit) (has_repeat units) differ in (
      own_return crew (own unit (itself unit units)),
      returns_granted (after standing crew (return_one unit) Granted) crew units parts.1
          (λ other has. get_or-set_other standing.held unit other None None
          (λ same. true≢false (sym (rw same at has) ∙ parts.0)) ∙ own other (behind unit other units has)),
    )

gone : (held : Held) (unit : ℕ) → holder_of (without_held unit held) unit ≡ None
gone held unit = elim (cases_lt unit (length held)) [
  | inl short ↦ get_or-set_same held unit None None short
  | inr past ↦ get_or_past (without_held unit held) unit None (omega (arith, length-set held unit None))
]

none_left : (units : List ℕ) (held : Held) → ((unit : ℕ) → among units unit ≡ false → holder_of held unit ≡ None)
    → (unit : ℕ) → holder_of (without_all units held) unit ≡ None
none_left [] held none unit = none unit refl
none_left (first ∷ units) held none unit =
    none_left units (without_held first held)
    (λ other out. elim (cases_eq other first) [
      | inl same ↦ rw same (gone held first)
      | inr apart ↦ get_or-set_other held first other None None apart
          ∙ none other (or_from (first == other) (among units other) (ne_eqb first other (λ e. apart (sym e))) out)
    ]) unit

as_long : (units : List ℕ) (held : Held) → length (without_all units held) ≡ length held
as_long [] held = refl
as_long (unit ∷ units) held = as_long units (without_held unit held) ∙ length-set held unit None

all_back : (units : ℕ) (held : Held) → length held ≡ units + 1 → ((unit : ℕ) → holder_of held unit ≡ None)
    → held ≡ nothing_held units
all_back units held all none =
    ext_get_or None held (nothing_held units) (all ∙ sym (length-replicate {A = Option CrewNo} (units + 1) None))
    (λ i short. none i ∙ sym (no_holder (units + 1) i))

-- ---- one wave, and all

-- the units of a wave are taken one by one, and then returned
abbrev pub wave_requests : List ℕ → List Request
wave_requests wave = map take_one wave ++ map return_one wave

-- a wave of units, each once, that may all be out
pub record CanGoRound (units : ℕ) (cuts : List (List ℕ)) (margin : ℕ) (wave : List ℕ) : Type 0 where
  pub known : (unit : ℕ) → among wave unit ≡ true → unit ≤ units
  pub differ : has_repeat wave ≡ false
  pub free : IsFree cuts margin wave

module _ (units : ℕ) (cuts : List (List ℕ)) (margin : ℕ) (supervisor : Option CrewNo) (crew : CrewNo) where
  abbrev pub board : StandingView
  board = empty_board units cuts margin supervisor

  module _ (wave : List ℕ) (can : CanGoRound units cuts margin wave) where
    abbrev held : Held
    held = with_all_held crew wave (nothing_held units)

    places : length (nothing_held units) ≡ units + 1
    places = length-replicate {A = Option CrewNo} (units + 1) None

    there : (unit : ℕ) → among wave unit ≡ true → unit < length (nothing_held units)
    there unit has = omega (arith, places, can.known unit has)

    takes : AreGranted board crew (map take_one wave)
    takes =
        takes_granted board crew wave
        (can_all_go units cuts margin supervisor wave wave can.free can.known
        (record { differ = can.differ; members = λ unit. refl }))

    returns : AreGranted (record board { held = held }) crew (map return_one wave)
    returns =
        returns_granted (record board { held = held }) crew wave can.differ
        (all_held crew wave (nothing_held units) there)

    round_granted : AreGranted board crew (wave_requests wave)
    round_granted =
        both_granted board crew (map take_one wave) (map return_one wave) takes
        (subst (λ s. AreGranted s crew (map return_one wave)) (sym (takes_leave board crew wave)) returns)

    empty_again : without_all wave held ≡ nothing_held units
    empty_again =
        all_back units (without_all wave held)
        (as_long wave held ∙ length-with_all_held crew wave (nothing_held units) ∙ places)
        (none_left wave held
        (λ unit out. nobody_holds (holder_of held unit)
        (is_held-with_all_held crew wave (nothing_held units) there unit
        ∙ or_from (among wave unit) _ out (none_out units unit))))

    round_leaves : left_by board crew (wave_requests wave) ≡ board
    round_leaves =
        left_by_both board crew (map take_one wave) (map return_one wave)
        ∙ ap (λ s. left_by s crew (map return_one wave)) (takes_leave board crew wave)
        ∙ returns_leave (record board { held = held }) crew wave
        ∙ ap (λ (h : Held). record board { held = h }) empty_again

  pub rounds_granted : (waves : List (List ℕ)) → All (CanGoRound units cuts margin) waves
      → AreGranted board crew (flat_map wave_requests waves)
      × (left_by board crew (flat_map wave_requests waves) ≡ board)
  rounds_granted [] all = (tt, refl)
  rounds_granted (wave ∷ waves) all =
      let can = All-head (CanGoRound units cuts margin) wave waves all in
      let others = rounds_granted waves (All-tail (CanGoRound units cuts margin) wave waves all) in
      let leaves = round_leaves wave can in (
        both_granted board crew (wave_requests wave) (flat_map wave_requests waves) (round_granted wave can)
            (subst (λ s. AreGranted s crew (flat_map wave_requests waves)) (sym leaves) others.0),
        left_by_both board crew (wave_requests wave) (flat_map wave_requests waves)
            ∙ ap (λ s. left_by s crew (flat_map wave_requests waves)) leaves ∙ others.1,
      )

-- ---- what the crew `planner` asks for

module _ {tree : FaultTree} (kept : IsTree tree) where
  named_unit : (unit : ℕ) → IsUnitOf tree unit → unit_of tree (name_of tree unit) ≡ Some unit
  named_unit unit is =
      sym (named_is (name_of tree unit) (Some unit) kept (is, refl)
      ((λ none. absurd cc), (λ all. absurd (all unit is refl))))

  take_asked : {found : Option ℕ} (unit : ℕ) → found ≡ Some unit
      → Take (record { units = with_unit found []; unknown = is_none found || false }) ≡ take_one unit
  take_asked unit is = rw is refl

  takes_asked : (wave : List ℕ) → All (IsUnitOf tree) wave
      → map (request_of tree) (map (λ unit. asks.Take (name_of tree unit ∷ [])) wave) ≡ map take_one wave
  takes_asked [] known = refl
  takes_asked (unit ∷ wave) known =
      rw (takes_asked wave (All-tail (IsUnitOf tree) unit wave known))
      (ap (λ r. r ∷ map take_one wave)
      (take_asked unit (named_unit unit (All-head (IsUnitOf tree) unit wave known))))

  returns_asked : (wave : List ℕ) → All (IsUnitOf tree) wave
      → map (request_of tree) (map (λ unit. asks.Return (name_of tree unit)) wave) ≡ map return_one wave
  returns_asked [] known = refl
  returns_asked (unit ∷ wave) known =
      rw (returns_asked wave (All-tail (IsUnitOf tree) unit wave known))
      (ap (λ (found : Option ℕ). Return found ∷ map return_one wave)
      (named_unit unit (All-head (IsUnitOf tree) unit wave known)))

  wave_asked : (wave : List ℕ) → All (IsUnitOf tree) wave
      → map (request_of tree) (wave_asks tree wave) ≡ wave_requests wave
  wave_asked wave known =
      map-append (request_of tree) (map (λ unit. asks.Take (name_of tree unit ∷ [])) wave)
      (map (λ unit. asks.Return (name_of tree unit)) wave)
      ∙ ap (λ l. l ++ map (request_of tree) (map (λ unit. asks.Return (name_of tree unit)) wave))
      (takes_asked wave known)
      ∙ ap (λ l. map take_one wave ++ l) (returns_asked wave known)

  waves_asked : (waves : List (List ℕ)) → All (All (IsUnitOf tree)) waves
      → map (request_of tree) (flat_map (wave_asks tree) waves) ≡ flat_map wave_requests waves
  waves_asked [] known = refl
  waves_asked (wave ∷ waves) known =
      map-append (request_of tree) (wave_asks tree wave) (flat_map (wave_asks tree) waves)
      ∙ ap (λ l. l ++ map (request_of tree) (flat_map (wave_asks tree) waves))
      (wave_asked wave (All-head (All (IsUnitOf tree)) wave waves known))
      ∙ ap (λ l. wave_requests wave ++ l) (waves_asked waves (All-tail (All (IsUnitOf tree)) wave waves known))

-- ---- histories

abbrev first_crew : CrewNo
first_crew = record { 0 = 0 }

abbrev asked_for : List Entry → List Request
asked_for history = map (λ (entry : Entry). entry.request) history

-- a legal history of requests that are all granted one after the other
history_granted : (standing : StandingView) (crew : CrewNo) (history : List Entry)
    → All (λ (entry : Entry). entry.crew ≡ crew) history → IsLegal standing history
    → AreGranted standing crew (asked_for history)
    → All IsGrant history × (standing_after standing history ≡ left_by standing crew (asked_for history))
history_granted standing crew [] own legal granted = (All-nil IsGrant, refl)
history_granted standing crew (entry ∷ history) own legal granted =
    let is : entry.crew ≡ crew = All-head (λ (e : Entry). e.crew ≡ crew) entry history own in
    let grant : entry.reply ≡ Granted =
    legal.0 ∙ ap (λ k. reply_of standing k entry.request) is ∙ granted.0 in
    let next : after_entry standing entry ≡ after standing crew entry.request Granted =
    ap (λ k. after standing k entry.request entry.reply) is ∙ ap (after standing crew entry.request) grant in
    let others =
    history_granted (after standing crew entry.request Granted) crew history
    (All-tail (λ (e : Entry). e.crew ≡ crew) entry history own)
    (subst (λ s. IsLegal s history) next legal.1) granted.1 in (
      All-cons IsGrant entry history grant others.0,
      ap (λ s. standing_after s history) next ∙ others.1,
    )

of_first : (history : List Entry) → All (λ (entry : Entry). entry.crew.0 < 1) history
    → All (λ (entry : Entry). entry.crew ≡ first_crew) history
of_first history all k d short =
    let low = all k d short in
    ap (λ (n : ℕ). let crew : CrewNo = record { 0 = n } in crew) (zero_of low)
  where
    zero_of : {n : ℕ} → n < 1 → n ≡ 0
    zero_of low = omega arith

entries_are_all : (history : List Entry) → All (λ (entry : Entry). entry.crew.0 < 1) history
    → entries_of 0 history ≡ history
entries_are_all [] all = refl
entries_are_all (entry ∷ history) all =
    let low = All-head (λ (e : Entry). e.crew.0 < 1) entry history all in
    let zero_is : entry.crew.0 ≡ 0 = omega arith in
    rw (eq-eqb entry.crew.0 0 zero_is)
    (ap (λ es. entry ∷ es) (entries_are_all history (All-tail (λ (e : Entry). e.crew.0 < 1) entry history all)))

abbrev seconds : List (ℕ × Request) → List Request
seconds pairs = map (λ (pair : ℕ × Request). pair.1) pairs

asked_seconds : (history : List Entry) → seconds (asked_by history) ≡ asked_for history
asked_seconds [] = refl
asked_seconds (entry ∷ history) = ap (λ l. entry.request ∷ l) (asked_seconds history)

numbered_seconds : (number : ℕ) (requests : List Request) → seconds (enumerate_from number requests) ≡ requests
numbered_seconds number [] = refl
numbered_seconds number (request ∷ requests) = ap (λ l. request ∷ l) (numbered_seconds (number + 1) requests)

-- every request of the crew is granted in each history of the deck, and nothing is out at its end
pub planned_granted : {tree : FaultTree} {cuts : List (List ℕ)} {margin : ℕ} {wanted : List ℕ}
    {waves : List (List ℕ)} (history : List Entry) → IsTree tree → AreFirstFit cuts margin wanted waves
    → has_repeat wanted ≡ false → All (IsUnitOf tree) wanted
    → IsLegal (planned_deck tree cuts margin waves).opening history
    → IsWhole (planned_deck tree cuts margin waves).dockets history
    → All IsGrant history × ((standing_after (planned_deck tree cuts margin waves).opening history).held
    ≡ nothing_held (unit_count tree))
planned_granted {tree} {cuts} {margin} {wanted} {waves} history kept fit differ known legal whole =
    let granted =
    history_granted opening first_crew history (of_first history whole.crews) legal
    (subst (AreGranted opening first_crew) (sym asked) (rounds.0)) in (
      granted.0,
      ap (λ (s : StandingView). s.held)
          (granted.1 ∙ ap (left_by opening first_crew) asked ∙ rounds.1),
    )
  where
    opening : StandingView
    opening = empty_board (unit_count tree) cuts margin (supervisor_of (planner tree waves ∷ []))

    can : All (CanGoRound (unit_count tree) cuts margin) waves
    can k d short = record {
      known = λ unit has. (all_among (IsUnitOf tree) wanted known unit
          (of_wanted wanted _ (fit.ordered k d short) unit has)).1;
      differ = once_of_wanted wanted _ (fit.ordered k d short) differ;
      free = fit.free k d short;
    }

    rounds : AreGranted opening first_crew (flat_map wave_requests waves)
        × (left_by opening first_crew (flat_map wave_requests waves) ≡ opening)
    rounds =
        rounds_granted (unit_count tree) cuts margin (supervisor_of (planner tree waves ∷ [])) first_crew waves can

    docket : List Request
    docket = requests_of tree (planner tree waves)

    asked : asked_for history ≡ flat_map wave_requests waves
    asked =
        sym (asked_seconds history)
        ∙ ap (λ es. seconds (asked_by es)) (sym (entries_are_all history whole.crews))
        ∙ ap seconds (whole.each 0)
        ∙ numbered_seconds 0 (take (length docket) docket)
        ∙ take_all (length docket) docket (omega arith)
        ∙ waves_asked kept waves (waves_have (IsUnitOf tree) fit known)
