use Rattle.std.proofs.Common.{rules, sym, subst}
use Rattle.zdd_families.specs.Antichains.{IsAntichain}
use Rattle.family_memory.specs.Memory.{Has}
use Rattle.memory_tests.proofs.family_copies_tests.sending.sent.Goals as goal

pub import-requires-clause-antichain : goal.import-requires-clause-antichain
import-requires-clause-antichain c =
    let held : Has c.args.here.now c.args.own = search rules in
    subst IsAntichain (sym c.in_ok-shared.ensures.gives.known.1) (c.is_sound.ensures.antichains c.args.own held)
