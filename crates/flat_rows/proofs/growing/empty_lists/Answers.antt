use Rattle.std.proofs.Common.{arith, subst, ◌≡◌, [], ◌∷◌, ◌++◌, ap, replicate, ◌∙◌}
use Rattle.std.proofs.lemmas.List.{replicate_more}
use Rattle.flat_rows.proofs.growing.empty_lists.Goals as goal

pub loop-preserved : goal.loop-preserved
loop-preserved g c =
    c.in_ok-push.ensures.items ∙ ap (λ l. l ++ c.new.result ∷ []) c.loop.invariant
    ∙ ap (λ x. replicate c.loop.counter [] ++ x ∷ []) c.new.ensures ∙ replicate_more c.loop.counter []

pub returns : goal.returns
returns g c = subst (λ n. c.loop.lists.items ≡ replicate n []) (omega arith) c.loop.invariant
