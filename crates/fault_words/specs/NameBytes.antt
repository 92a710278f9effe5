-- The bytes that a name keeps in its value or in memory of their own.
use Rattle.std.specs.Prelude.{ℕ, List}
use Rattle.fault_words.specs.declared.name_bytes.NameBytes.{NameBytes}
use Rattle.fault_words.specs.declared.name_bytes.NameBytes.TheVariants.{Few, Many}

-- the bytes of the name, wherever it keeps them
abbrev pub bytes_of : NameBytes → List ℕ
bytes_of (Few few) = few
bytes_of (Many many) = many.value.items
