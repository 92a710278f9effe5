-- What follows from the definitions of `specs/Guard`.
use Rattle.std.specs.Prelude.{◌≡◌, ◌⊎◌, ℕ, suc, ◌+◌, ◌≤◌, Bool, true, false, not, cond, List, [], ◌∷◌}
use Rattle.std.specs.Prelude.{length, All, Option, Some, None}
use Rattle.std.proofs.Common.{refl, sym, ◌∙◌, ap, subst, arith, inl, inr}
use Rattle.std.proofs.Common.{length-set, ◌==◌}
use Rattle.std.proofs.lemmas.Bool.{leb-true, le-leb, eqb-true}
use Rattle.std.proofs.lemmas.Bool.{or_cases}
use Rattle.std.proofs.lemmas.List.{length-replicate}
use Rattle.std.proofs.lemmas.List.Elements.{All-head, All-tail}
use Rattle.unit_sets.specs.{UnitList.among, declared.request.CrewNo.CrewNo}
use Rattle.residual_ledger.specs.Residual.{residual}
use Rattle.residual_ledger.proofs.ResidualFacts.{residual-cons}
use Rattle.residual_ledger.specs.Tight.{is_tight, numbers_from, tight}
use Rattle.margin_policy.specs.{declared.request.Request.Request, declared.request.Reply.Reply}
use Rattle.margin_policy.specs.{declared.request.Reply.TheVariants.Granted}
use Rattle.margin_policy.specs.declared.request.Request.TheVariants.{Take, Return, Margin}
use Rattle.margin_policy.specs.Held.{Held, holder_of, units_out, without_held}
use Rattle.margin_policy.proofs.HeldLaws.{is_held, among-units_out, as_before_or_set, length-with_all_held}
use Rattle.margin_policy.specs.Decide.{decide_return, is_granted, held_after_granted}
use Rattle.margin_policy.proofs.DecideLaws.{take_leaves_none_tight, margin_leaves_none_tight}
use Rattle.margin_policy.proofs.HeldLemmas.{no_holder}
use Rattle.margin_policy.specs.Standing.{StandingView, IsRequestFor, reply_of, after, nothing_held}
use Rattle.margin_policy.specs.Guard.{HasAllUnits, KeepsMore, is_judged}

-- ---- where units come back, cut sets keep no less

module _ (test other : List ℕ → Bool) (fewer : (cut : List ℕ) → other cut ≡ true → test cut ≡ true) where
  numbers-fewer : (number : ℕ) (cuts : List (List ℕ)) → numbers_from number test cuts ≡ []
      → numbers_from number other cuts ≡ []
  numbers-fewer number [] none = refl
  numbers-fewer number (cut ∷ cuts) none =
      by_tests (numbers-fewer (suc number) cuts) (test cut) (other cut) (fewer cut) none
    where
      by_tests : (numbers_from (suc number) test cuts ≡ [] → numbers_from (suc number) other cuts ≡ [])
          → (first second : Bool) → (second ≡ true → first ≡ true)
          → cond first (number ∷ numbers_from (suc number) test cuts) (numbers_from (suc number) test cuts) ≡ []
          → cond second (number ∷ numbers_from (suc number) other cuts) (numbers_from (suc number) other cuts) ≡ []
      by_tests later true second so h = absurd cc
      by_tests later false true so h = absurd (cc (so refl))
      by_tests later false false so h = later h

residual-fewer : (out back : List ℕ) → ((unit : ℕ) → among back unit ≡ true → among out unit ≡ true) → (cut : List ℕ)
    → residual out cut ≤ residual back cut
residual-fewer out back fewer [] = omega arith
residual-fewer out back fewer (unit ∷ cut) =
    let before = residual-cons out unit cut in
    let after = residual-cons back unit cut in
    let one = counted (among back unit) (among out unit) (fewer unit) in
    let more = residual-fewer out back fewer cut in
    omega arith
  where
    counted : (b o : Bool) → (b ≡ true → o ≡ true) → cond (not o) 1 0 ≤ cond (not b) 1 0
    counted true o h = rw (h refl) (omega arith)
    counted false true h = omega arith
    counted false false h = omega arith

still_held : (held : Held) (unit other : ℕ) → is_held (without_held unit held) other ≡ true → is_held held other ≡ true
still_held held unit other out = elim (as_before_or_set held unit None other) [
  | inl before ↦ rw before at out
  | inr none ↦ absurd (cc (rw none at out))
]

-- with fewer units out every cut set keeps more than the margin, if it did before
pub fewer_keep_more : (cuts : List (List ℕ)) (margin : ℕ) (back out : List ℕ)
    → ((unit : ℕ) → among back unit ≡ true → among out unit ≡ true)
    → tight out margin cuts ≡ [] → tight back margin cuts ≡ []
fewer_keep_more cuts margin back out fewer none =
    numbers-fewer (is_tight out margin) (is_tight back margin)
    (λ cut small. le-leb (residual out cut) margin (omega
    (arith, residual-fewer out back fewer cut, leb-true (residual back cut) margin small)))
    1 cuts none

return_keeps_more : (cuts : List (List ℕ)) (held : Held) (margin unit : ℕ)
    → tight (units_out held) margin cuts ≡ [] → tight (units_out (without_held unit held)) margin cuts ≡ []
return_keeps_more cuts held margin unit =
    fewer_keep_more cuts margin (units_out (without_held unit held)) (units_out held)
    (λ other out.
    among-units_out held other
    ∙ still_held held unit other (sym (among-units_out (without_held unit held) other) ∙ out))

-- ---- what the margin rule granted

within_all : (most : ℕ) (units : List ℕ) → All (λ unit. unit ≤ most) units → (unit : ℕ) → among units unit ≡ true
    → unit ≤ most
within_all most [] all unit has = absurd cc
within_all most (first ∷ units) all unit has = elim (or_cases (first == unit) (among units unit) has) [
  | inl here ↦ rw (← eqb-true first unit here) (All-head (λ (u : ℕ). u ≤ most) first units all)
  | inr later ↦ within_all most units (All-tail (λ (u : ℕ). u ≤ most) first units all) unit later
]

-- after a granted take and after a granted wish for a margin every cut set keeps more than the margin then in force
pub granted_keeps_more : (standing : StandingView) (crew : CrewNo) (request : Request) → HasAllUnits standing
    → IsRequestFor standing.units request → is_judged request ≡ true
    → reply_of standing crew request ≡ Granted → KeepsMore (after standing crew request Granted)
granted_keeps_more standing crew (Take asked) all fits judged granted =
    take_leaves_none_tight standing.cuts standing.held standing.margin crew asked
    (λ unit has. omega (arith, all, within_all standing.units asked.units fits unit has)) granted
granted_keeps_more standing crew (Return unit) all fits judged granted = absurd cc
granted_keeps_more standing crew (Margin number) all fits judged granted =
    margin_leaves_none_tight standing.cuts standing.held standing.supervisor crew number granted

-- ---- along requests

module _ (standing : StandingView) (crew : CrewNo) where
  -- a reply grants its request, or changes nothing
  granted_or_same : (request : Request) (reply : Reply) → (reply ≡ Granted)
      ⊎ ((is_granted reply ≡ false) × (after standing crew request reply ≡ standing))
  granted_or_same request Granted = inl refl
  granted_or_same request _ = inr (refl, refl)

  -- where each return that is granted leaves every cut set with more than the margin, each granted request does
  granted_leaves : (request : Request) → HasAllUnits standing → IsRequestFor standing.units request
      → ((unit : ℕ) → decide_return crew (holder_of standing.held unit) ≡ Granted
      → tight (units_out (without_held unit standing.held)) standing.margin standing.cuts ≡ [])
      → reply_of standing crew request ≡ Granted → KeepsMore (after standing crew request Granted)
  granted_leaves (Take asked) all fits returned granted =
      granted_keeps_more standing crew (Take asked) all fits refl granted
  granted_leaves (Return None) all fits returned granted = absurd cc
  granted_leaves (Return (Some unit)) all fits returned granted = returned unit granted
  granted_leaves (Margin number) all fits returned granted =
      granted_keeps_more standing crew (Margin number) all fits refl granted

  -- where every cut set keeps more than the margin, so it does after each request that was decided
  pub decided_keeps_more : (request : Request) → HasAllUnits standing → IsRequestFor standing.units request
      → KeepsMore standing → KeepsMore (after standing crew request (reply_of standing crew request))
  decided_keeps_more request all fits more = elim (granted_or_same request (reply_of standing crew request)) [
    | inl granted ↦ subst (λ (r : Reply). KeepsMore (after standing crew request r)) (sym granted)
        (granted_leaves request all fits
        (λ unit _. return_keeps_more standing.cuts standing.held standing.margin unit more) granted)
    | inr (_, same) ↦ subst KeepsMore (sym same) more
  ]

  -- where nothing is out, a request leaves every cut set with more than the margin, or it changes nothing and the
  -- margin rule granted nothing
  pub first_kept : (request : Request) → standing.held ≡ nothing_held standing.units
      → IsRequestFor standing.units request
      → KeepsMore (after standing crew request (reply_of standing crew request))
      ⊎ ((is_granted (reply_of standing crew request) ≡ false)
      × (after standing crew request (reply_of standing crew request) ≡ standing))
  first_kept request empty fits = elim (granted_or_same request (reply_of standing crew request)) [
    | inl granted ↦
        let all : HasAllUnits standing = ap length empty ∙ length-replicate {A = Option CrewNo}
        (standing.units + 1) None in
        inl (subst (λ (r : Reply). KeepsMore (after standing crew request r)) (sym granted)
        (granted_leaves request all fits
        (λ unit given. absurd (cc (rw (empty, no_holder (standing.units + 1) unit) at given))) granted))
    | inr same ↦ inr same
  ]

  -- every request leaves a place for the holder of each unit
  pub all_units_after : (request : Request) (reply : Reply) → HasAllUnits standing
      → HasAllUnits (after standing crew request reply)
  all_units_after request reply all = elim (granted_or_same request reply) [
    | inl granted ↦ subst (λ (r : Reply). HasAllUnits (after standing crew request r)) (sym granted)
        (by_request request)
    | inr (_, same) ↦ subst HasAllUnits (sym same) all
  ]
    where
      by_request : (asked : Request) → length (held_after_granted crew asked standing.held) ≡ standing.units + 1
      by_request (Take asked) = length-with_all_held crew asked.units standing.held ∙ all
      by_request (Return None) = all
      by_request (Return (Some unit)) = length-set standing.held unit None ∙ all
      by_request (Margin number) = all
