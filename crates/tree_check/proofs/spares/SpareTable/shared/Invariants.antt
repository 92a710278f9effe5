use Rattle.std.proofs.Common.{◌≡◌, ◌+◌, drop, length}
use Rattle.tree_check.specs.Classes.{first, spare_uses, shared_spares}
use Rattle.tree_check.specs.SpareTable.{clashes_by}
use Rattle.tree_check.proofs.spares.SpareTable.shared.Given as goal

abbrev pub invariant-loop-gate : goal.invariant-loop-gate
invariant-loop-gate l =
    record {
      room : length l.self.uses.items ≡ l.nodes + 1;
      rest : first (clashes_by l.self.uses.items (spare_uses (drop l.gate-index l.gates)))
          ≡ first (shared_spares l.gates);
    }
