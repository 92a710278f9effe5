use Rattle.std.proofs.Common.{◌+◌, ◌-◌}
use Rattle.cut_sequences.specs.Orders.{order_limit}
use Rattle.cut_sequences.proofs.rounds.+all_rounds.Given as goal

abbrev pub decreases-all_rounds : goal.decreases-all_rounds
decreases-all_rounds g l = (l.end - l.stop.place) + (order_limit - l.stop.orders)
