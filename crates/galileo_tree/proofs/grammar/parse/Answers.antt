use Rattle.galileo_tree.proofs.{Forms.whole_form, Parses.front_grows}
use Rattle.galileo_tree.proofs.grammar.parse.Goals as goal

-- the statement that was read stands behind those before it
pub loop-statements-preserved : goal.loop-statements-preserved
loop-statements-preserved c =
    let takes = rw c.in-Some.is at c.in_ok-first.ensures in
    rw c.in_ok-push.ensures.added (front_grows c.loop-statements.statements
    c.loop-statements.invariant takes c.in_ok-read.ensures)

-- the text has ended
pub new-requires : goal.new-requires
new-requires c =
    let ends = rw c.in_default.is at c.in_ok-first.ensures in
    whole_form c.args.text.now c.loop-statements.statements c.loop-statements.reader ends.0 c.loop-statements.invariant
    ends.1
