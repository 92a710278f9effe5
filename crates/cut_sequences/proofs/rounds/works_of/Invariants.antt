use Rattle.std.proofs.Common.{◌≡◌, map, Ok}
use Rattle.cut_sequences.proofs.rounds.works_of.Given as goal

abbrev pub invariant-loop-answer : goal.invariant-loop-answer
invariant-loop-answer l = l.yielded ≡ map Ok l.works.items
