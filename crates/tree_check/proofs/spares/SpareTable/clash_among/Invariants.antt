use Rattle.std.proofs.Common.{◌≡◌, drop, length}
use Rattle.tree_check.specs.{Classes.first, Classes.uses_of, SpareTable.clashes_by, SpareTable.table_after}
use Rattle.tree_check.proofs.SpareLemmas.{uses_from}
use Rattle.tree_check.proofs.spares.SpareTable.clash_among.Given as goal

abbrev pub invariant-loop-input : goal.invariant-loop-input
invariant-loop-input l =
    record {
      room : length l.self.uses.items ≡ length l.fn.self.uses.items;
      clash : first (clashes_by l.self.uses.items (uses_from l.is_first (drop l.input-index l.inputs)))
          ≡ first (clashes_by l.fn.self.uses.items (uses_of l.inputs));
      table : table_after l.self.uses.items (uses_from l.is_first (drop l.input-index l.inputs))
          ≡ table_after l.fn.self.uses.items (uses_of l.inputs);
    }
