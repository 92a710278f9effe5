use Rattle.std.proofs.Common.{refl, sym, ◌∙◌}
use Rattle.zdd_shared_table.specs.Seats.{map_of}
use Rattle.zdd_product.proofs.WithoutParts.{unit_empty, unit_stays}
use Rattle.zdd_product.proofs.ops.Ops.strip_unit.Goals as goal

pub returns-then-has_empty_set-clause-known : goal.returns-then-has_empty_set-clause-known
returns-then-has_empty_set-clause-known c =
    unit_empty (map_of c.args.self.now) c.args.b 0 c.requires.unit refl
    (sym c.has_empty_set.ensures.empty ∙ c.if-has_empty_set.true)

pub returns-else-has_empty_set-clause-known : goal.returns-else-has_empty_set-clause-known
returns-else-has_empty_set-clause-known c =
    unit_stays (map_of c.args.self.now) c.args.b c.requires.unit c.requires.unit
    (sym c.has_empty_set.ensures.empty ∙ c.if-has_empty_set.false)
