use Rattle.std.proofs.Common.{ℕ, sym, ◌∙◌, ap, is_err, ◌++◌}
use Rattle.edge_io.proofs.OutLemmas.{Puts-trans}
use Rattle.deck_reading.specs.Deck.{StandsFor}
use Rattle.board_report.specs.PrintText.{IsNamedUnit, gate_line, print_text, unit_line}
use Rattle.fault_definitions.specs.Tree.{IsUnitOf, unit_count, gate_count}
use Rattle.std.specs.List.{flat_map, range_with_len}
use Rattle.std.proofs.Common.{◌+◌}
use Rattle.board_report.proofs.PrintedTrees.{on_ok, tree_named}
use Rattle.text_pieces.proofs.Putting.{first_short}
use Rattle.board_report.proofs.print.put_tree.Goals as goal

pub returns-in_err-put_top_line-clause-puts : goal.returns-in_err-put_top_line-clause-puts
returns-in_err-put_top_line-clause-puts g c =
    first_short g.K.Sink.taken g.K.Sink.faults
    ((flat_map (gate_line c.args.tree.now) (range_with_len (unit_count c.args.tree.now + 1)
    (gate_count c.args.tree.now))) ++ (flat_map (unit_line c.args.tree.now)
    (range_with_len 1 (unit_count c.args.tree.now)))) c.put_top_line.ensures.puts
    (sym c.put_top_line.ensures.answer ∙ ap is_err c.in_err-put_top_line.was)

pub returns-in_err-put_gates-clause-puts : goal.returns-in_err-put_gates-clause-puts
returns-in_err-put_gates-clause-puts g c =
    Puts-trans c.put_top_line.ensures.puts
    (first_short g.K.Sink.taken g.K.Sink.faults (flat_map (unit_line c.args.tree.now)
    (range_with_len 1 (unit_count c.args.tree.now))) c.put_gates.ensures.puts
    (sym c.put_gates.ensures.answer ∙ ap is_err c.in_err-put_gates.was))

pub returns-clause-puts : goal.returns-clause-puts
returns-clause-puts g c =
    Puts-trans c.put_top_line.ensures.puts (Puts-trans c.put_gates.ensures.puts c.put_units.ensures.puts)

pub returns-clause-read : goal.returns-clause-read
returns-clause-read g c =
    on_ok c.put_units.result ((unit : ℕ) → IsUnitOf c.args.tree.now unit → IsNamedUnit c.args.tree.now unit)
    (StandsFor (print_text c.args.tree.now) c.args.tree.now)
    (λ units. c.printed_trees_are_read.ensures.read c.args.tree.now c.put_units.ensures.kept
    (tree_named c.args.tree.now c.put_units.ensures.kept c.in_ok-put_gates.ensures.named units))
    c.put_units.ensures.named
