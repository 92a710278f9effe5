use Rattle.std.proofs.{Common.ap, Common.subst, lemmas.List.Elements.All-contains, lemmas.Option.IfSome_then}
use Rattle.zdd_shared_table.specs.Seats.{map_of}
use Rattle.zdd_product.specs.Told.{IsTold, Tells}
use Rattle.zdd_product.proofs.ops.Ops.recall.Goals as goal

pub returns : goal.returns
returns c =
    let entries = c.self.inside.answers in
    let operation = c.args.operation in
    let a = c.args.a in
    let b = c.args.b in
    IfSome_then c.answer.result c.answer.ensures
    (λ answer has.
    subst (λ m. Tells m operation a b answer) (ap map_of c.self.view_is)
    (All-contains (IsTold (map_of c.self.inside.seat)) entries
    (record { question = record { operation = operation; first = a; second = b }; answer = answer })
    c.self.invariant.told has))
