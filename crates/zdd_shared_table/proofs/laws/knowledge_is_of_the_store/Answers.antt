use Rattle.std.proofs.Common.{sym}
use Rattle.zdd_families.proofs.Canonical.{family-grown}
use Rattle.zdd_shared_table.specs.Known.{find, placed}
use Rattle.zdd_shared_table.proofs.{Filling.IsGrown-placed, Told.closed_words, Told.closed_view}
use Rattle.zdd_shared_table.proofs.laws.knowledge_is_of_the_store.Goals as goal

pub returns : goal.returns
returns c = λ home size words v rule fits r knows.
    sym (family-grown (find v.known) (placed words) r (closed_view v rule fits)
    (closed_words rule) (IsGrown-placed fits) knows)
