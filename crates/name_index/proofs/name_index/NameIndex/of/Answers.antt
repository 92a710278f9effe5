use Rattle.std.proofs.Common.{◌+◌, ◌∷◌, ap, sym, ◌∙◌, drop}
use Rattle.std.proofs.lemmas.List.{at_drop_more}
use Rattle.name_index.proofs.Table.{insert_next}
use Rattle.name_index.proofs.name_index.NameIndex.of.Goals as goal

pub loop-name-preserved : goal.loop-name-preserved
loop-name-preserved c =
    let rest = drop (c.loop-name.name-index + 1) c.args.names.now in
    let name = c.name-item.result in
    insert_next c.loop-name.index c.requires c.loop-name.invariant
    (at_drop_more (λ r. r) c.args.names.now c.loop-name.name-index name c.loop-name-test.true
    ∙ ap (λ n. n ∷ rest) (sym c.name-item.is))
    c.in_ok-insert.ensures.new c.in_ok-insert.ensures.names
