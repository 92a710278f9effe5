-- A standing keeps what it keeps when a unit goes out or comes back.
use Rattle.std.proofs.Common.{ℕ, ◌≤◌, ap, sym, ◌∙◌, arith, length-set, Some, None}
use Rattle.unit_sets.specs.{UnitList.with_unit, UnitList.without_unit, declared.request.CrewNo.CrewNo}
use Rattle.residual_ledger.specs.Ledger.{LedgerView}
use Rattle.margin_policy.specs.Held.{Held, with_held, without_held}
use Rattle.margin_policy.specs.Standing.{KeepsStanding}
use Rattle.margin_policy.proofs.HeldLemmas.{taken, returned}

pub keeps-taken : {ledger : LedgerView} {margin : ℕ} {held : Held} (crew : CrewNo) (unit : ℕ) → unit ≤ ledger.units
    → KeepsStanding ledger margin held → KeepsStanding (record ledger { out = with_unit unit ledger.out }) margin
    (with_held crew unit held)
keeps-taken {held} crew unit known was = record {
  whole = was.whole;
  all = length-set held unit (Some crew) ∙ was.all;
  same = ap (with_unit unit) was.same ∙ sym (taken held crew unit (omega (arith, was.all)));
  within = was.within;
}

pub keeps-returned : {ledger : LedgerView} {margin : ℕ} {held : Held} (unit : ℕ) → unit ≤ ledger.units
    → KeepsStanding ledger margin held → KeepsStanding (record ledger { out = without_unit unit ledger.out }) margin
    (without_held unit held)
keeps-returned {held} unit known was = record {
  whole = was.whole;
  all = length-set held unit None ∙ was.all;
  same = ap (without_unit unit) was.same ∙ sym (returned held unit (omega (arith, was.all)));
  within = was.within;
}
