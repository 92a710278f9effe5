-- How large a store a picture needs.
use Rattle.std.specs.Prelude.{ℕ, Option, Some, None}
use Rattle.outage_engine.specs.declared.store_size.TheConstants.{LEAST_BITS, STORE_BITS}
use Rattle.picture_engine.specs.declared.words.Mark.{Mark}
use Rattle.picture_engine.specs.declared.words.Mark.TheVariants.{Nothing, Cut}

-- two to the power of so many slots: many where a cut set is looked for, and else the least
abbrev pub bits_for : Option Mark → ℕ
bits_for (Some (Cut number)) = STORE_BITS
bits_for (Some Nothing) = LEAST_BITS
bits_for None = LEAST_BITS
