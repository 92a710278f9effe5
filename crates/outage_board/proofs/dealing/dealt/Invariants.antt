use Rattle.std.proofs.Common.{◌≡◌, ◌-◌, ◌≤◌, []}
use Rattle.std.specs.Prelude.{vec_capacity}
use Rattle.outage_board.specs.{Passes.new_passes, Dealing.board_of, Dealing.undealt}
use Rattle.outage_board.proofs.dealing.dealt.Given as goal

abbrev pub invariant-loop-number : goal.invariant-loop-number
invariant-loop-number l = record {
  own : l.place.table_id ≡ l.words.table_id;
  place : l.place.me ≡ (undealt l.words.key l.number (l.crews - l.number), []);
  dealt : l.passes.items ≡ new_passes (board_of l.words.table_id l.words.key) 0 l.number;
  room : l.crews ≤ vec_capacity l.passes;
}
