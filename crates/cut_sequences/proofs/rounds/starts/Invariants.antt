use Rattle.std.proofs.Common.{◌≡◌, ℕ, ◌<◌, [], length, get_or}
use Rattle.cut_sequences.specs.declared.share.Work.{Work}
use Rattle.cut_sequences.proofs.rounds.starts.Given as goal

abbrev pub invariant-loop-next : goal.invariant-loop-next
invariant-loop-next l = record {
  many : length l.works.items ≡ l.next;
  each : (worker : ℕ) (d : Work) → worker < length l.works.items
      → get_or l.works.items worker d ≡ record { share = []; next = worker };
}
