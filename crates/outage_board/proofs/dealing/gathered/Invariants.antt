use Rattle.std.proofs.Common.{◌≡◌, ◌++◌, length}
use Rattle.outage_board.specs.Passes.{AreOf}
use Rattle.outage_board.specs.Dealing.{board_of, IsGathered, made_back}
use Rattle.outage_board.proofs.dealing.gathered.Given as goal

-- what is gathered, and then what is left, is what all passes made
abbrev pub invariant-loop-pass : goal.invariant-loop-pass
invariant-loop-pass l = record {
  own : l.place.table_id ≡ l.words.table_id;
  place : IsGathered l.words.key.value.deck l.place.me;
  left : AreOf (board_of l.words.table_id l.words.key) l.passes.passes;
  crews : made_back l.initial.passes.passes ≡ l.place.me.0.crews ++ made_back l.passes.passes;
}

abbrev pub decreases-loop-pass : goal.decreases-loop-pass
decreases-loop-pass l = length l.passes.passes
