use Rattle.std.proofs.Common.{sym, ◌∙◌}
use Rattle.std.proofs.lemmas.Result.{IfErr-weaker, IfOk-weaker}
use Rattle.event_counts.specs.Count.{Rose}
use Rattle.picture_engine.proofs.Causes.{mark_cause, picture_of}
use Rattle.picture_engine.proofs.finding.find_picture.Goals as goal

pub returns-clause-picture : goal.returns-clause-picture
returns-clause-picture g c =
    IfOk-weaker c.mark_tree.result _ _
    (λ picture is.
    picture_of c.args.words.now (g.S.Source.held c.args.source.now) (g.S.Source.held c.read_tree.new.source)
    c.in-Some.mark c.in_ok-tree.tree (sym c.read_words.ensures.mark ∙ c.in-Some.is) c.in_ok-tree.ensures.tree is)
    c.mark_tree.ensures.picture

pub returns-clause-refused : goal.returns-clause-refused
returns-clause-refused g c =
    IfErr-weaker c.mark_tree.result _ _
    (λ why refused.
    mark_cause c.args.words.now (g.S.Source.held c.args.source.now) (g.S.Source.held c.read_tree.new.source)
    c.in-Some.mark c.in_ok-tree.tree (sym c.read_words.ensures.mark ∙ c.in-Some.is) c.in_ok-tree.ensures.tree
    (Rose (g.S.Source.faults c.args.source.now) (g.S.Source.faults c.read_tree.new.source)) why refused)
    c.mark_tree.ensures.refused
