use Rattle.std.proofs.Common.{◌∙◌, ap, length, arith}
use Rattle.cut_texts.proofs.LineLemmas.{added}
use Rattle.cut_texts.proofs.line.Line.add.Goals as goal

pub returns-clause-line : goal.returns-clause-line
returns-clause-line c =
    let line = c.args.self.now in
    let text = c.in_ok-extend_from_slice.ensures.items in
    rw (
      c.push_reserved.ensures.items,
      c.push_reserved-2.ensures.items,
      text,
      c.reserve.ensures.items,
      c.reserve-2.ensures.items,
    ) (added c.args.names.now.tree.now c.requires.line c.args.unit c.requires.unit
    (c.text.ensures ∙ c.requires.texts.each c.args.unit c.requires.unit) c.len.result (omega (arith, ap length text)))
