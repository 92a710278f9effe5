-- What follows from the definitions of `specs/Copies`.
use Rattle.std.specs.Prelude.{ℕ, List, get_or}
use Rattle.std.proofs.Common.{sym, ◌∙◌}
use Rattle.zdd_families.specs.Map.{IsClosed, Grown}
use Rattle.zdd_families.proofs.{MapLemmas.Knows-grown, Canonical.family-grown}
use Rattle.family_memory.specs.Memory.{Held, IsSound, Went}
use Rattle.family_memory.proofs.After.{still, still_has}
use Rattle.family_copies.specs.Copies.{AreCopies, IsCopy}

-- ---- copies stay copies

-- where the memory goes on
pub copies-went : {before after : Held} (known : ℕ → ℕ) → IsSound before → Went before after → (copies : List ℕ)
    → AreCopies before known copies → AreCopies after known copies
copies-went {before} known sound went copies are own noted =
    let is : IsCopy before known (get_or copies own 0) own = are own noted in record {
      knows = is.knows;
      has = still_has sound went own is.has;
      same = still sound went own is.has ∙ is.same;
    }

-- where the map grows
pub copies-grown : (held : Held) (known known' : ℕ → ℕ) → IsClosed known → IsClosed known' → Grown known known'
    → (copies : List ℕ) → AreCopies held known copies → AreCopies held known' copies
copies-grown held known known' closed closed' grown copies are own noted =
    let shared = get_or copies own 0 in
    let is : IsCopy held known shared own = are own noted in record {
      knows = Knows-grown known known' shared grown is.knows;
      has = is.has;
      same = is.same ∙ sym (family-grown known known' shared closed closed' grown is.knows);
    }
