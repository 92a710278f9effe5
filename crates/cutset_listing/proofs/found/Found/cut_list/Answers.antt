use Rattle.std.proofs.Common.{◌≡◌, ◌∙◌, ◌<◌, ◌++◌, ℕ, List, [], ap, arith, get_or, length}
use Rattle.std.proofs.lemmas.List.{get_or_read}
use Rattle.std.proofs.lemmas.List.Elements.{All-from_recursion}
use Rattle.unit_sets.specs.{CutOrder.weight, CutOrder.weight_limit, UnitList.IsRising}
use Rattle.cutset_listing.specs.BySize.{at_size}
use Rattle.cutset_listing.proofs.Sizes.{part-each, part-next, part-ordered, part-weight}
use Rattle.cutset_listing.proofs.found.Found.cut_list.Goals.{After-index}
use Rattle.cutset_listing.proofs.found.Found.cut_list.Goals as goal

-- a size that has a list
short : (c : After-index) → c.loop-size.size < length c.args.self.now
short c = let same = ap (λ (lists : List (List (List ℕ))). length lists) c.self.view_is in omega (arith, same)

-- the list of the size
is : (c : After-index) → c.index.result.now ≡ at_size c.args.self.now c.loop-size.size
is c =
    rw (← c.self.view_is) (get_or_read c.self.inside.lists.items c.loop-size.size c.index.result.now (omega arith)
    c.index.ensures [])

pub append-requires-clause-filled : goal.append-requires-clause-filled
append-requires-clause-filled c =
    let to = (goal.at.append-requires-clause-filled c).After-index in
    All-from_recursion (λ set. 0 < length set) c.index.result.now
    (part-each (λ set. 0 < length set) c.args.self.now c.loop-size.size (short to)
    (is to) c.requires.filled)

pub append-requires-clause-rising : goal.append-requires-clause-rising
append-requires-clause-rising c =
    let to = (goal.at.append-requires-clause-rising c).After-index in
    All-from_recursion IsRising c.index.result.now
    (part-each IsRising c.args.self.now c.loop-size.size (short to) (is to) c.requires.rising)

pub append-requires-clause-after_last : goal.append-requires-clause-after_last
append-requires-clause-after_last c =
    let to = (goal.at.append-requires-clause-after_last c).After-index in
    part-ordered c.args.self.now c.loop-size.size c.loop-size.cuts (short to)
    c.loop-size.invariant.pushed (is to) c.requires.ordered

pub loop-size-preserved : goal.loop-size-preserved
loop-size-preserved c =
    let to = (goal.at.loop-size-preserved c).After-index in record {
      pushed =
          part-next c.args.self.now c.loop-size.size c.loop-size.cuts (short to)
          c.loop-size.invariant.pushed (is to) c.in_ok-append.ensures.added;
    }

pub returns-in_err-append-clause-limit : goal.returns-in_err-append-clause-limit
returns-in_err-append-clause-limit c =
    let to = (goal.at.returns-in_err-append-clause-limit c).After-index in λ refused.
    let heavy : weight_limit < weight (c.loop-size.cuts ++ c.index.result.now) = grind arith in
    let within =
    part-weight c.args.self.now c.loop-size.size c.loop-size.cuts (short to)
    c.loop-size.invariant.pushed (is to) in
    omega (arith, heavy, within)
