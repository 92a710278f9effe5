-- How large a store the answer to a command needs.
use Rattle.std.specs.Prelude.{ℕ, Option, Some, None}
use Rattle.board_words.specs.declared.command.Command.{Command}
use Rattle.board_words.specs.declared.command.Command.TheVariants.{Cuts, Board, Check, Print, Diagram, Make, Help}
use Rattle.board_words.specs.declared.command.Show.TheVariants as shown
use Rattle.outage_engine.specs.declared.store_size.TheConstants.{LEAST_BITS, STORE_BITS}

-- two to the power of so many slots: many where diagrams are made, and else the least
abbrev pub bits_for : Option Command → ℕ
bits_for (Some (Cuts most workers)) = STORE_BITS
bits_for (Some (Board margin most workers)) = STORE_BITS
bits_for (Some Check) = LEAST_BITS
bits_for (Some Print) = LEAST_BITS
bits_for (Some Help) = LEAST_BITS
bits_for (Some (Diagram workers)) = STORE_BITS
bits_for (Some (Make number shown.Deck)) = LEAST_BITS
bits_for (Some (Make number shown.Summary)) = STORE_BITS
bits_for None = LEAST_BITS
