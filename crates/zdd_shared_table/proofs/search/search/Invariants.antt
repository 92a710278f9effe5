use Rattle.std.proofs.Common.{◌≡◌, ◌+◌, ◌<◌}
use Rattle.zdd_words.specs.Word.{home_of}
use Rattle.zdd_shared_table.specs.{Rule.round, Seats.IsSoundView, Search.StaysSeat}
use Rattle.zdd_shared_table.proofs.SearchLemmas.{after_passing}
use Rattle.zdd_shared_table.proofs.search.search.Given as goal

abbrev pub invariant-loop-passed : goal.invariant-loop-passed
invariant-loop-passed l = record {
  inside : l.slot < l.size;
  here : l.passed < l.size → l.slot ≡ round l.size (home_of l.word l.bits + l.passed);
  view : l.seat.me.0 ≡ after_passing l.word l.passed l.initial.seat.me.0;
  stays : StaysSeat l.initial.seat l.seat;
  sound : IsSoundView l.seat.me.0;
}
