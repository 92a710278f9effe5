use Rattle.std.proofs.Common.{◌∙◌, sym, subst, codes, ◌++◌}
use Rattle.edge_io.specs.Out.{Puts}
use Rattle.cut_texts.specs.DiagramText.{method_text}
use Rattle.cut_texts.proofs.diagram.put_method.Goals as goal

pub returns-in-Some-clause-puts : goal.returns-in-Some-clause-puts
returns-in-Some-clause-puts g c =
    subst (λ nodes. Puts g.K.Sink.taken g.K.Sink.faults c.args.out.now c.put_all.new.out (method_text nodes))
    (sym c.in-Some.is)
    (subst (λ n. Puts g.K.Sink.taken g.K.Sink.faults c.args.out.now c.put_all.new.out
    (codes "method diagram\nnodes: " ++ (n ++ codes "\n")))
    (c.as_bytes.ensures.value ∙ c.format.ensures.text) c.put_all.ensures.puts)
