-- Families of which the one includes none of the other: nothing is taken out.
use Rattle.std.proofs.Common.{ℕ}
use Rattle.std.proofs.lemmas.Bool.{false_from_ne_true}
use Rattle.zdd_families.specs.{Inclusion.Includes, Inclusion.includes_one, Without.IsWithout}
use Rattle.zdd_families.proofs.InclusionLemmas.{Includes-from_test}
use Rattle.family_memory.specs.{Extents.IncludesNone, Memory.Held, Memory.family_in}
use Rattle.family_memory.proofs.After.{Gave-there, is_family}
use Rattle.minimal_operations.specs.Operands.{EndsIn, HasBoth}

pub stays : {held : Held} {a b : ℕ} → HasBoth held a b → IncludesNone (family_in held a) (family_in held b)
    → EndsIn IsWithout held a b a
stays {held = held} {a = a} {b = b} has none =
    let f = family_in held a in
    let g = family_in held b in
    Gave-there has.sound has.first (record {
      is_family = is_family a has.sound has.first;
      sets = λ set. (
        λ there. (
          there,
          false_from_ne_true (includes_one g set) (λ test.
              let found : Includes g set = Includes-from_test g set test in
              none set found.part there found.has found.within),
        ),
        λ both. both.0,
      );
    })
