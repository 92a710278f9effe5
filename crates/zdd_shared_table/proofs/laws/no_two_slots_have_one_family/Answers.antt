use Rattle.std.proofs.Common.{inr}
use Rattle.zdd_families.proofs.Canonical.{family-same}
use Rattle.zdd_shared_table.specs.Known.{placed}
use Rattle.zdd_shared_table.proofs.Told.{closed_words, unique_words}
use Rattle.zdd_shared_table.proofs.laws.no_two_slots_have_one_family.Goals as goal

pub returns : goal.returns
returns c = λ home size words rule r q some other same.
    family-same (placed words) r q (closed_words rule) (unique_words rule) (inr some) (inr other) same
