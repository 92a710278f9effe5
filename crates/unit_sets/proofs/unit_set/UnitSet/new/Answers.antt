use Rattle.std.proofs.Common.{rules, ◌≡◌, ◌∙◌, ap}
use Rattle.unit_sets.specs.Words.{units_of}
use Rattle.unit_sets.proofs.unit_set.UnitSet.new.Goals as goal
use Rattle.std.proofs.Common.{replicate}
use Rattle.unit_sets.proofs.WordSets.{units_of-zeros}

pub returns : goal.returns
returns c =
    let zeros : c.in_ok-words.words.items ≡ replicate 64 0 = search rules in
    ap units_of zeros ∙ units_of-zeros 64
