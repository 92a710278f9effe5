use Rattle.std.proofs.Common.{arith, ℕ, ◌+◌, ◌++◌, ◌∷◌, [], ◌∙◌, ap, append_assoc, get_or, sym, take}
use Rattle.std.proofs.lemmas.List.{append-nil, map_more, take_all}
use Rattle.flat_rows.specs.Rows.{raised}
use Rattle.flat_rows.proofs.RowsLemmas.{Rise-at}
use Rattle.flat_rows.proofs.push_raised.Goals as goal

pub overflow_add-before : goal.overflow_add-before
overflow_add-before g c =
    let at = (Rise-at 0 c.args.more.now c.args.total c.loop-end.end-index c.requires.rise c.loop-end-test.true).1 in
    omega (arith, at)

pub loop-end-init : goal.loop-end-init
loop-end-init g c = record { items = sym (append-nil c.args.ends.now.items); room = omega arith }

pub loop-end-preserved : goal.loop-end-preserved
loop-end-preserved g c =
    let before = c.args.ends.now.items in
    let more = c.args.more.now in
    let i = c.loop-end.end-index in
    let end : ℕ = c.args.before + get_or more i 0 in
    record {
      items =
          c.push_reserved.ensures.items ∙ ap (λ l. l ++ end ∷ []) c.loop-end.invariant.items
          ∙ append_assoc before (raised c.args.before (take i more)) (end ∷ [])
          ∙ ap (λ l. before ++ l) (sym (map_more (λ e. c.args.before + e) more i 0 c.loop-end-test.true));
      room = omega arith;
    }

pub returns : goal.returns
returns g c =
    c.loop-end.invariant.items
    ∙ ap (λ l. c.args.ends.now.items ++ raised c.args.before l)
    (take_all c.loop-end.end-index c.args.more.now (omega arith))
