use Rattle.std.proofs.Common.{◌≡◌, ap, sym, ◌∙◌}
use Rattle.std.proofs.lemmas.Bool.{eqb-true}
use Rattle.zdd_families.specs.Family.{branch}
use Rattle.family_memory.specs.Memory.{Held, family_in}
use Rattle.family_memory.proofs.After.{Gave-there}
use Rattle.minimal_operations.proofs.nodes.make_or_known.Goals as goal

pub returns-then-eq-3 : goal.returns-then-eq-3
returns-then-eq-3 c =
    let held : Held = c.args.memory.now in
    let one = c.parts-parts.result in
    let is : family_in held c.args.known ≡ branch one.level (family_in held one.lo) (family_in held one.hi) =
    c.parts-parts.ensures.cut.is in
    let level : one.level ≡ c.args.level = eqb-true one.level c.args.level (sym c.eq.ensures ∙ c.if-eq.true) in
    let lo : one.lo ≡ c.args.lo = eqb-true one.lo c.args.lo (sym c.eq-then-eq.ensures ∙ c.if-eq-2.true) in
    let hi : one.hi ≡ c.args.hi = eqb-true one.hi c.args.hi (sym c.eq-then-eq-2.ensures ∙ c.if-eq-3.true) in
    Gave-there c.requires.node.sound c.requires.has_known
    (is ∙ ap (λ n. branch n (family_in held one.lo) (family_in held one.hi)) level
    ∙ ap (λ r. branch c.args.level (family_in held r) (family_in held one.hi)) lo
    ∙ ap (λ r. branch c.args.level (family_in held c.args.lo) (family_in held r)) hi)
