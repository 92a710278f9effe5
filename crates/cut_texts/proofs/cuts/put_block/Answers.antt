use Rattle.std.proofs.Common.{◌≡◌, true, false, arith, sym, ◌∙◌, ap, refl, is_err, ◌+◌, ◌++◌, ◌<◌, [], None, get_or}
use Rattle.edge_io.proofs.OutLemmas.{Puts-trans}
use Rattle.cut_texts.specs.CutsText.{cut_line, order_lines}
use Rattle.text_pieces.proofs.Putting.{first_short}
use Rattle.cut_texts.proofs.Listing.{block_put, unlisted_block, orderless_block, listed_lines, set_spelled}
use Rattle.cut_texts.proofs.cuts.put_block.Goals as goal

pub put_cut_line-requires-clause-spelled : goal.put_cut_line-requires-clause-spelled
put_cut_line-requires-clause-spelled g c = set_spelled c.args.i c.requires.listing c.members-set.ensures.value

pub put_cut_line-requires-then-count-eq0-clause-spelled : goal.put_cut_line-requires-then-count-eq0-clause-spelled
put_cut_line-requires-then-count-eq0-clause-spelled g c =
    set_spelled c.args.i c.requires.listing c.members-set.ensures.value

pub put_cut_line-requires-2-clause-spelled : goal.put_cut_line-requires-2-clause-spelled
put_cut_line-requires-2-clause-spelled g c = set_spelled c.args.i c.requires.listing c.members-set.ensures.value

pub returns-then-not-listed-clause-puts : goal.returns-then-not-listed-clause-puts
returns-then-not-listed-clause-puts g c =
    let unlisted : c.listed.result ≡ false = grind arith in
    block_put c.args.listing.now c.args.i
    c.members-set.result.now c.members-set.ensures.value c.put_cut_line.ensures.puts
    (unlisted_block c.args.listing.now.names.tree.now (c.args.i + 1) c.members-set.result.now
    (get_or c.args.listing.now.orders.now c.args.i None) (sym c.listed.ensures ∙ unlisted))

pub returns-then-count-eq0-clause-puts : goal.returns-then-count-eq0-clause-puts
returns-then-count-eq0-clause-puts g c =
    let listed : c.listed.result ≡ true = grind arith in
    let none : c.count.result ≡ 0 = grind arith in
    block_put c.args.listing.now c.args.i
    c.members-set.result.now c.members-set.ensures.value c.put_cut_line-then-count-eq0.ensures.puts
    (orderless_block c.args.listing.now.names.tree.now (c.args.i + 1) c.members-set.result.now
    (get_or c.args.listing.now.orders.now c.args.i None) (sym c.listed.ensures ∙ listed) (sym c.count.ensures ∙ none))

pub returns-in_err-put_cut_line-clause-puts : goal.returns-in_err-put_cut_line-clause-puts
returns-in_err-put_cut_line-clause-puts g c =
    let tree = c.args.listing.now.names.tree.now in
    let orders = get_or c.args.listing.now.orders.now c.args.i None in
    block_put c.args.listing.now c.args.i c.members-set.result.now c.members-set.ensures.value
    (first_short g.K.Sink.taken g.K.Sink.faults (order_lines tree orders)
    c.put_cut_line-2.ensures.puts (sym c.put_cut_line-2.ensures.answer ∙ ap is_err c.in_err-put_cut_line.was)) refl

pub returns-clause-puts : goal.returns-clause-puts
returns-clause-puts g c =
    let tree = c.args.listing.now.names.tree.now in
    let orders = get_or c.args.listing.now.orders.now c.args.i None in
    let set = c.members-set.result.now in
    let listed : c.listed.result ≡ true = grind arith in
    let some : 0 < c.count.result = grind arith in
    block_put c.args.listing.now c.args.i set c.members-set.ensures.value (Puts-trans
    c.put_cut_line-2.ensures.puts c.put_orders.ensures.puts)
    (ap (λ l. cut_line tree (c.args.i + 1) set ++ l) (listed_lines tree orders (sym c.listed.ensures ∙ listed)
    (omega (arith, some, c.count.ensures))))
