use Rattle.std.proofs.Common.{◌++◌, ◌∷◌, [], ◌∙◌, arith}
use Rattle.galileo_tree.proofs.Parses.{closes_basic}
use Rattle.galileo_tree.proofs.grammar.add_attributes.Goals as goal

-- the value that was read, and then the end
pub returns-in-None-clause-read : goal.returns-in-None-clause-read
returns-in-None-clause-read c =
    let name = c.loop-read.basic.name in
    let before = c.loop-read.basic.attributes in
    let read = c.in_ok-read.read in
    let value = c.in_ok-read.ensures name before in
    let next = rw c.in-None.is at (c.in_ok-next.ensures name (before ++ read ∷ [])) in
    rw c.in_ok-push.ensures.added
    (closes_basic c.attribute.new.reader (record { name = name; attributes = before ++ read ∷ [] }) (record {
      same = c.loop-read.invariant.same ∙ value.same;
      fewer = omega (arith, value.fewer, c.loop-read.invariant.fewer);
    })
    next)

pub loop-read-smaller : goal.loop-read-smaller
loop-read-smaller c =
    let name = c.loop-read.basic.name in
    let before = c.loop-read.basic.attributes in
    let value = c.in_ok-read.ensures name before in
    let next = rw c.in-Some.is at (c.in_ok-next.ensures name (before ++ c.in_ok-read.read ∷ [])) in
    omega (arith, value.fewer, next.fewer)

-- the value that was read, and then the next word
pub loop-read-preserved : goal.loop-read-preserved
loop-read-preserved c =
    let name = c.loop-read.basic.name in
    let before = c.loop-read.basic.attributes in
    let read = c.in_ok-read.read in
    let value = c.in_ok-read.ensures name before in
    let next = rw c.in-Some.is at (c.in_ok-next.ensures name (before ++ read ∷ [])) in
    rw c.in_ok-push.ensures.added
    (record {
      same = c.loop-read.invariant.same ∙ value.same ∙ next.same;
      fewer = omega (arith, value.fewer, next.fewer, c.loop-read.invariant.fewer);
    })
