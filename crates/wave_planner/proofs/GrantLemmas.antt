-- Takes of one unit after the other, all of which are granted.
use Rattle.std.specs.Prelude.{◌≡◌, ℕ, ◌+◌, ◌<◌, ◌≤◌, Bool, true, false, ◌||◌, ◌==◌, List, [], ◌∷◌, ◌++◌}
use Rattle.std.specs.Prelude.{map, length, All}
use Rattle.std.specs.Prelude.{Option, Some, None, is_some}
use Rattle.std.proofs.Common.{refl, sym, ◌∙◌, ap, arith, length-set}
use Rattle.std.proofs.lemmas.Bool.{or_from, or_parts}
use Rattle.std.proofs.lemmas.List.{length-replicate}
use Rattle.unit_sets.specs.{UnitList.among, declared.request.CrewNo.CrewNo}
use Rattle.residual_ledger.specs.Tight.{tight}
use Rattle.residual_ledger.proofs.RowLemmas.{among-append}
use Rattle.margin_policy.specs.{Asked.has_repeat, Decide.granted_unless, Decide.unless_held, Guard.HasAllUnits}
use Rattle.margin_policy.specs.declared.request.Reply.TheVariants.{Granted}
use Rattle.margin_policy.specs.Held.{holder_of, or_else, units_out}
use Rattle.margin_policy.specs.Standing.{StandingView, after, nothing_held, reply_of}
use Rattle.margin_policy.proofs.GuardLemmas.{fewer_keep_more}
use Rattle.margin_policy.proofs.HeldLaws.{among-units_out, is_held, is_held-with_held}
use Rattle.margin_policy.proofs.HeldLemmas.{no_holder}
use Rattle.wave_planner.specs.Granted.{AreGranted, IsOrderOf, empty_board, take_one}
use Rattle.wave_planner.specs.Waves.{AreFirstFit, IsFree, wave_at}
use Rattle.wave_planner.proofs.KeptLemmas.{all_among, apart, behind, itself, of_wanted}

-- ---- one unit

pub nobody_holds : (holder : Option CrewNo) → is_some holder ≡ false → holder ≡ None
nobody_holds None none = refl
nobody_holds (Some holder) none = absurd cc

granted_if : {holder : Option CrewNo} {numbers : List ℕ} → holder ≡ None → numbers ≡ []
    → unless_held (or_else holder None) (granted_unless numbers) ≡ Granted
granted_if none free = rw (none, free) refl

take_granted : (standing : StandingView) (crew : CrewNo) (unit : ℕ) → is_held standing.held unit ≡ false
    → IsFree standing.cuts standing.margin (unit ∷ units_out standing.held)
    → reply_of standing crew (take_one unit) ≡ Granted
take_granted standing crew unit in_service free =
    granted_if {numbers = tight (unit ∷ units_out standing.held) standing.margin standing.cuts}
    (nobody_holds (holder_of standing.held unit) in_service) free

-- ---- one after the other

-- some units that are in service may all be out beside those that are out
pub record CanGo (standing : StandingView) (order : List ℕ) : Type 0 where
  pub all : HasAllUnits standing
  pub known : (unit : ℕ) → among order unit ≡ true → unit ≤ standing.units
  pub differ : has_repeat order ≡ false
  pub in_service : (unit : ℕ) → among order unit ≡ true → is_held standing.held unit ≡ false
  pub free : IsFree standing.cuts standing.margin (order ++ units_out standing.held)

module _ (standing : StandingView) (crew : CrewNo) (unit : ℕ) (order : List ℕ)
    (can : CanGo standing (unit ∷ order)) where
  short : unit < length standing.held
  short = let known = can.known unit (itself unit order) in let all = can.all in omega arith

  once : (among order unit ≡ false) × (has_repeat order ≡ false)
  once = or_parts (among order unit) (has_repeat order) can.differ

  abbrev now : StandingView
  now = after standing crew (take_one unit) Granted

  out_now : (other : ℕ) → among (units_out now.held) other ≡ ((unit == other) || is_held standing.held other)
  out_now other = among-units_out now.held other ∙ is_held-with_held standing.held crew unit short other

  in_turn : (u o h : Bool) → (o || (u || h)) ≡ true → (u || (o || h)) ≡ true
  in_turn true o h has = refl
  in_turn false o h has = has

  first_in_service : is_held standing.held unit ≡ false
  first_in_service = can.in_service unit (itself unit order)

  first_free : IsFree standing.cuts standing.margin (unit ∷ units_out standing.held)
  first_free =
      fewer_keep_more standing.cuts standing.margin (unit ∷ units_out standing.held)
      ((unit ∷ order) ++ units_out standing.held)
      (λ other has.
      ap (λ b. (unit == other) || b) (among-append order (units_out standing.held) other)
      ∙ with_more (unit == other) (among order other) (among (units_out standing.held) other) has) can.free
    where
      with_more : (u o h : Bool) → (u || h) ≡ true → (u || (o || h)) ≡ true
      with_more true o h has = refl
      with_more false true h has = refl
      with_more false false h has = has

  others_free : IsFree standing.cuts standing.margin (order ++ units_out now.held)
  others_free =
      fewer_keep_more standing.cuts standing.margin (order ++ units_out now.held)
      ((unit ∷ order) ++ units_out standing.held)
      (λ other has.
      ap (λ b. (unit == other) || b) (among-append order (units_out standing.held) other
      ∙ ap (λ b. among order other || b) (among-units_out standing.held other))
      ∙ in_turn (unit == other) (among order other) (is_held standing.held other)
      (ap (λ b. among order other || b) (sym (out_now other))
      ∙ sym (among-append order (units_out now.held) other) ∙ has)) can.free

  others_can_go : CanGo now order
  others_can_go = record {
    all = length-set standing.held unit (Some crew) ∙ can.all;
    known = λ other has. can.known other (behind unit other order has);
    differ = once.1;
    in_service = λ other has. is_held-with_held standing.held crew unit short other
        ∙ or_from (unit == other) (is_held standing.held other) (apart order unit other once.0 has)
        (can.in_service other (behind unit other order has));
    free = others_free;
  }

pub takes_granted : (standing : StandingView) (crew : CrewNo) (order : List ℕ) → CanGo standing order
    → AreGranted standing crew (map take_one order)
takes_granted standing crew [] can = tt
takes_granted standing crew (unit ∷ order) can = (
  take_granted standing crew unit (first_in_service standing crew unit order can)
      (first_free standing crew unit order can),
  takes_granted (after standing crew (take_one unit) Granted) crew order (others_can_go standing crew unit order can),
)

-- ---- from the empty board

pub none_out : (units unit : ℕ) → is_held (nothing_held units) unit ≡ false
none_out units unit = ap is_some (no_holder (units + 1) unit)

-- any units that may be out together can go, each once and in any order
pub can_all_go : (units : ℕ) (cuts : List (List ℕ)) (margin : ℕ) (supervisor : Option CrewNo) (wave order : List ℕ)
    → IsFree cuts margin wave → ((unit : ℕ) → among wave unit ≡ true → unit ≤ units) → IsOrderOf wave order
    → CanGo (empty_board units cuts margin supervisor) order
can_all_go units cuts margin supervisor wave order free known is = record {
  all = length-replicate {A = Option CrewNo} (units + 1) None;
  known = λ unit has. known unit (sym (is.members unit) ∙ has);
  differ = is.differ;
  in_service = λ unit has. none_out units unit;
  free =
      fewer_keep_more cuts margin (order ++ units_out (nothing_held units)) wave
      (λ unit has. sym (is.members unit)
      ∙ only_those (among order unit) (among (units_out (nothing_held units)) unit)
      (among-units_out (nothing_held units) unit ∙ none_out units unit)
      (sym (among-append order (units_out (nothing_held units)) unit) ∙ has)) free;
}
  where
    only_those : (o h : Bool) → h ≡ false → (o || h) ≡ true → o ≡ true
    only_those true h none has = refl
    only_those false h none has = cc

pub any_order_granted : (cuts : List (List ℕ)) (margin : ℕ) (wanted : List ℕ) (waves : List (List ℕ))
    (units : ℕ) (supervisor : Option CrewNo) (crew : CrewNo) (place : ℕ) (order : List ℕ)
    → AreFirstFit cuts margin wanted waves → All (λ unit. unit ≤ units) wanted → place < length waves
    → IsOrderOf (wave_at waves place) order
    → AreGranted (empty_board units cuts margin supervisor) crew (map take_one order)
any_order_granted cuts margin wanted waves units supervisor crew place order fit known short is =
    takes_granted (empty_board units cuts margin supervisor) crew order
    (can_all_go units cuts margin supervisor (wave_at waves place) order (fit.free place [] short)
    (λ unit has. all_among (λ u. u ≤ units) wanted known unit
    (of_wanted wanted (wave_at waves place) (fit.ordered place [] short) unit has)) is)
