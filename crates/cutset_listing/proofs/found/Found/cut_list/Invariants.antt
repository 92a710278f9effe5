use Rattle.std.proofs.Common.{◌≡◌, take}
use Rattle.cutset_listing.specs.BySize.{joined}
use Rattle.cutset_listing.proofs.found.Found.cut_list.Given as goal

abbrev pub invariant-loop-size : goal.invariant-loop-size
invariant-loop-size l = record { pushed : l.cuts ≡ joined (take l.size l.self) }
