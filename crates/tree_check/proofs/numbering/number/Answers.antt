use Rattle.std.proofs.Common.{arith, refl, ap, ◌∙◌, ◌≡◌}
use Rattle.std.proofs.lemmas.Grind.{common_steps}
use Rattle.fault_words.specs.Names.{number_in}
use Rattle.tree_check.specs.Classes.{first}
use Rattle.tree_check.proofs.Numbers.{unknown, known}
use Rattle.tree_check.proofs.numbering.number.Goals as goal

pub returns-then-number-eq0-clause-fault : goal.returns-then-number-eq0-clause-fault
returns-then-number-eq0-clause-fault c =
    let zero_number : number_in c.args.index.now c.args.used.now.name ≡ 0 = grind (arith, common_steps) in
    (refl, ap first (unknown c.args.index.now c.args.used.now zero_number))

pub returns-clause-known : goal.returns-clause-known
returns-clause-known c =
    known c.args.index.now c.args.used.now (λ none. c.if-number-eq0.false (c.number_near-number.ensures ∙ none))
