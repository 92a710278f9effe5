use Rattle.std.proofs.Common.{ap}
use Rattle.zdd_families.specs.Map.{family}
use Rattle.zdd_families.proofs.Canonical.{family-same}
use Rattle.zdd_families.proofs.laws.equal_references.Goals as goal

pub returns : goal.returns
returns c =
    λ known r q closed unique knows knows'. (
      λ same. ap (family known) same,
      λ same. family-same known r q closed unique knows knows' same,
    )
