-- What a granted request leaves.
use Rattle.std.specs.Prelude.{◌≡◌, ℕ, ◌<◌, ◌++◌, Bool, true, false, ◌||◌, ◌==◌, List, [], ◌∷◌, length, Option, Some}
use Rattle.std.specs.Prelude.{None, if◌then◌else◌}
use Rattle.std.proofs.Common.{refl, sym, ◌∙◌, ap}
use Rattle.std.proofs.lemmas.List.Folds.{list_any-append}
use Rattle.unit_sets.specs.{UnitList.among, declared.request.CrewNo.CrewNo}
use Rattle.residual_ledger.specs.Tight.{tight}
use Rattle.residual_ledger.proofs.TightLaws.{tight-alike}
use Rattle.margin_policy.specs.declared.request.Reply.TheVariants.{Granted, UnknownUnit, NotSupervisor}
use Rattle.margin_policy.specs.Asked.{AskedView}
use Rattle.margin_policy.specs.Held.{Held, units_out, with_all_held, first_holder}
use Rattle.margin_policy.proofs.HeldLaws.{among-units_out, is_held-with_all_held}
use Rattle.margin_policy.specs.Decide.{granted_unless, unless_held, is_supervisor, decide_take, decide_margin}

none_tight : (numbers : List ℕ) → granted_unless numbers ≡ Granted → numbers ≡ []
none_tight [] h = refl
none_tight (number ∷ numbers) h = absurd cc

-- after a granted take no cut set is tight at the margin in force
pub take_leaves_none_tight : (cuts : List (List ℕ)) (held : Held) (margin : ℕ) (crew : CrewNo) (asked : AskedView)
    → ((unit : ℕ) → among asked.units unit ≡ true → unit < length held) → decide_take cuts held margin asked ≡ Granted
    → tight (units_out (with_all_held crew asked.units held)) margin cuts ≡ []
take_leaves_none_tight cuts held margin crew asked known granted =
    tight-alike (units_out (with_all_held crew asked.units held)) (asked.units ++ units_out held) margin
    (λ unit.
    among-units_out (with_all_held crew asked.units held) unit
    ∙ is_held-with_all_held crew asked.units held known unit
    ∙ ap (λ b. among asked.units unit || b) (sym (among-units_out held unit))
    ∙ sym (list_any-append (λ member. member == unit) asked.units (units_out held)))
    cuts
    ∙ by_cases asked.unknown (first_holder held asked.units) (tight (asked.units ++ units_out held) margin cuts) granted
  where
    by_cases : (unknown : Bool) (first : Option CrewNo) (numbers : List ℕ)
        → (if unknown then UnknownUnit else unless_held first (granted_unless numbers)) ≡ Granted → numbers ≡ []
    by_cases true first numbers h = absurd cc
    by_cases false None numbers h = none_tight numbers h
    by_cases false (Some holder) numbers h = absurd cc

-- after a granted margin no cut set is tight at it
pub margin_leaves_none_tight : (cuts : List (List ℕ)) (held : Held) (supervisor : Option CrewNo) (crew : CrewNo)
    (number : ℕ) → decide_margin cuts held supervisor crew number ≡ Granted → tight (units_out held) number cuts ≡ []
margin_leaves_none_tight cuts held supervisor crew number granted =
    by_cases (is_supervisor supervisor crew) (tight (units_out held) number cuts) granted
  where
    by_cases : (may : Bool) (numbers : List ℕ) → (if may then granted_unless numbers else NotSupervisor) ≡ Granted
        → numbers ≡ []
    by_cases true numbers h = none_tight numbers h
    by_cases false numbers h = absurd cc
