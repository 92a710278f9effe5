use Rattle.std.proofs.Common.{◌≡◌, inl}
use Rattle.std.proofs.lemmas.Result.{err_from_is_err_and}
use Rattle.tree_families.specs.{Due.IsDueToProducts, Recipe.IsProductOfAll, Recipe.alone}
use Rattle.zdd_shared_table.specs.Seats.{map_of}
use Rattle.zdd_product.proofs.After.{WasFull-as}
use Rattle.zdd_product.specs.Voting.{families}
use Rattle.zdd_nodes.proofs.NodeAnswers.{unit_made}
use Rattle.path_sets.specs.Due.{IsDueToKeptUnit}
use Rattle.path_sets.proofs.nodes.keep_unit.Goals as goal

pub returns-in_err-own : goal.returns-in_err-own
returns-in_err-own c =
    let unit = c.args.unit in
    let fs = families (map_of c.args.ops.now) c.args.triggers.now in
    let p = err_from_is_err_and c.from_residual.result c.from_residual.ensures.1 in
    rw p.1 (WasFull-as (λ h. h ≡ alone unit) (IsDueToKeptUnit unit fs) (λ h same. inl same) c.args.ops.now
    c.single.new.ops c.in_err-own.ensures)

pub returns : goal.returns
returns c =
    unit_made IsProductOfAll IsDueToProducts c.multiply_all.new.ops c.args.unit c.args.triggers.now
    c.is_sound.ensures.sound c.requires c.in_ok-own.ensures c.multiply_all.result c.multiply_all.ensures
