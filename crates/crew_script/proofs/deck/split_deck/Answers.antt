use Rattle.std.proofs.Common.{length, sym, ap, arith}
use Rattle.std.specs.List.{list_any}
use Rattle.crew_script.specs.{Deck.is_crews, Deck.split_by, Divides.size_of}
use Rattle.crew_script.proofs.LineLemmas.{lines_sized}
use Rattle.crew_script.proofs.deck.split_deck.Goals as goal

pub loop-row-init : goal.loop-row-init
loop-row-init c = record {
  rest = ap (split_by (length c.args.bytes.now) 0 1) c.new-lines.ensures;
  none = ap (list_any is_crews) (sym c.new-lines.ensures);
  size = omega (arith, ap size_of c.new-lines.ensures, lines_sized c.args.bytes.now);
  few = omega arith;
}
