use Rattle.std.proofs.Common.{◌<◌, length}
use Rattle.many_families.proofs.order.most_alike.Given as goal

abbrev pub invariant-loop-place : goal.invariant-loop-place
invariant-loop-place l = record {
  within : l.best < length l.places;
}
