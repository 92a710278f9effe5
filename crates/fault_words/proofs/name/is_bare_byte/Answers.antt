-- The table is held against the definition at each of the 256 bytes, by computing.
use Rattle.std.proofs.Common.{◌≡◌, ℕ, ◌<◌, Bool, true, map, get_or, not, nat_eq, sym, refl, ap, ◌∙◌, arith}
use Rattle.std.proofs.{Math.ListN.get_or-map, lemmas.List.FromFn.get_or-map-range_with_len}
use Rattle.std.specs.List.{range_with_len}
use Rattle.fault_words.specs.{Name.is_bare_byte, declared.name.TheConstants.BARE_BYTES}
use Rattle.fault_words.proofs.name.is_bare_byte.Goals as goal

-- a place of the table shows something else than a comma
abbrev is_shown : ℕ → Bool
is_shown byte = not (nat_eq byte 44)

shown : map is_shown BARE_BYTES ≡ map is_bare_byte (range_with_len 0 256)
shown = refl

read : (byte : ℕ) → byte < 256 → is_shown (get_or BARE_BYTES byte 0) ≡ is_bare_byte byte
read byte small =
    sym (get_or-map is_shown BARE_BYTES byte 0)
    ∙ ap (λ marks. get_or marks byte true) shown
    ∙ get_or-map-range_with_len is_bare_byte 0 256 byte byte true small (omega arith)

pub returns : goal.returns
returns c = read c.args.byte (omega arith)
