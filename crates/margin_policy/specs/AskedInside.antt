-- The fields of a take are those that its value gives back.
use Rattle.std.specs.Prelude.{◌≡◌, length, take}
use Rattle.std.proofs.Common.{refl}
use Rattle.margin_policy.specs.declared.asked.AskedUnits.TheInside.{Inside}
use Rattle.margin_policy.specs.Asked.{HoldsAsked, padded, padded-take, length-asked}

-- the fields of a take made anew from its units: their count, and the places behind them filled with the unit 1
abbrev pub from_fields : Inside → Inside
from_fields a = record {
  places = padded (take a.count a.places);
  count = length (take a.count a.places);
  unknown = a.unknown;
}

pub given_back : (a : Inside) → HoldsAsked a.places a.count a.unknown → from_fields a ≡ a
given_back a holds = rw (
  padded-take a.places a.count a.unknown holds,
  length-asked a.places a.count a.unknown holds,
) refl
