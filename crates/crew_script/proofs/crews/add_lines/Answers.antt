use Rattle.std.proofs.Common.{length, sym, ap, arith}
use Rattle.crew_script.specs.Crews.{crews_from}
use Rattle.crew_script.proofs.LineLemmas.{few_lines}
use Rattle.crew_script.proofs.crews.add_lines.Goals as goal

pub loop-row-init : goal.loop-row-init
loop-row-init c = record {
  same = ap (crews_from c.args.line c.args.crews.now) (sym c.new-lines.ensures);
  few = omega (arith, ap length c.new-lines.ensures, few_lines c.args.bytes.now);
}
