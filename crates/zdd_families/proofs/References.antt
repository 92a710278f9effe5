-- The families of known references, as the operations cut them.
use Rattle.std.specs.Prelude.{◌≡◌, ◌≢◌, ℕ, ◌≤◌}
use Rattle.std.proofs.Common.{sym, ◌∙◌, inl, arith}
use Rattle.zdd_families.specs.Map.{Knows, IsClosed, IsUnique, family}
use Rattle.zdd_families.proofs.MapLemmas.{family-unit}
use Rattle.zdd_families.proofs.Canonical.{family-filled, family-same}
use Rattle.zdd_families.specs.Due.{IsInnerFamily}

-- a known reference but EMPTY and UNIT has an inner family, where different references have different words
pub IsInnerFamily-reference : (known : ℕ → ℕ) (r : ℕ) → IsClosed known → IsUnique known → Knows known r → 2 ≤ r
    → IsInnerFamily (family known r)
IsInnerFamily-reference known r closed unique knows above = record {
  not_none = family-filled known r closed knows (λ e. omega arith);
  not_unit =
      λ same. let e : r ≡ 1 = family-same known r 1 closed unique knows (inl (omega arith))
      (same ∙ sym (family-unit known)) in omega (arith, e);
}

-- different references have different families
pub different_families : (known : ℕ → ℕ) {r q : ℕ} → IsClosed known → IsUnique known → Knows known r → Knows known q
    → r ≢ q → family known r ≢ family known q
different_families known {r} {q} closed unique knows knows' differ same =
    differ (family-same known r q closed unique knows knows' same)
