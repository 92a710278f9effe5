-- What a clause reads of a `Cut`.
use Rattle.std.specs.Prelude.{ℕ, List}
use Rattle.cutset_lists.specs.declared.sort.Cut.{Cut}

-- the units of a set
abbrev pub units_of : Cut → List ℕ
units_of cut = cut.units.now
