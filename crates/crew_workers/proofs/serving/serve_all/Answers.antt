use Rattle.crew_workers.proofs.ServedLemmas.{all_whole, still_all}
use Rattle.crew_workers.proofs.serving.serve_all.Goals as goal

pub close-state-requires-clause-all : goal.close-state-requires-clause-all
close-state-requires-clause-all g c =
    still_all c.args.start.board.deck c.args.start.passes.passes c.serve_each-passes.result.passes
    c.serve_each-passes.ensures.crews c.requires.all

pub returns-clause-whole : goal.returns-clause-whole
returns-clause-whole g c =
    all_whole c.args.start.board c.close-state.result c.serve_each-passes.result.passes c.entries.ensures.kept
    c.close-state.ensures.deck
    c.serve_each-passes.ensures.own c.close-state.ensures.made c.serve_each-passes.ensures.served
    (still_all c.args.start.board.deck c.args.start.passes.passes c.serve_each-passes.result.passes
    c.serve_each-passes.ensures.crews c.requires.all)
