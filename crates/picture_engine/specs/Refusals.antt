-- Why there is no picture, and the line that says so.
use Rattle.std.specs.Prelude.{◌≡◌, ℕ, ◌<◌, List, ◌++◌, length, codes, decimal, Option, Some, None}
use Rattle.fault_definitions.specs.{Tree.FaultTree, Cut.IsCutList}
use Rattle.cutset_lists.specs.Generation.{HasHeavyCutList}
use Rattle.deck_reading.specs.{Deck.StandsFor, Faults.IsDeckFault, declared.deck.CrewPart.TheVariants.IfAny}
use Rattle.board_report.specs.Refusals.{fault_line, notice_line}
use Rattle.board_report.specs.declared.notice.Notice.TheVariants as notice
use Rattle.outage_engine.specs.Gives.{IsBeyond, OfInput}
use Rattle.picture_engine.specs.{Words.asked, declared.refusal.Refusal.Refusal, declared.words.Mark.TheVariants.Cut}
use Rattle.picture_engine.specs.declared.refusal.Refusal.TheVariants.{Usage, ReadFault, TooLong, Fault, ListLimit}
use Rattle.picture_engine.specs.declared.refusal.Refusal.TheVariants.{NoSuchCut}

-- ---- what is said

-- `refused: cut NUMBER of COUNT`
abbrev pub no_cut_line : ℕ → ℕ → List ℕ
no_cut_line number count =
    codes "refused: cut " ++ (decimal number ++ (codes " of " ++ (decimal count ++ codes "\n")))

-- of a deck and its cut list the same as by every other command
abbrev pub refusal_line : Refusal → List ℕ
refusal_line Usage = codes "usage: picture [--cut N]\n"
refusal_line ReadFault = notice_line notice.ReadFault
refusal_line TooLong = notice_line notice.TooLong
refusal_line (Fault fault) = fault_line fault
refusal_line ListLimit = notice_line notice.ListLimit
refusal_line (NoSuchCut number count) = no_cut_line number count

-- ---- why

-- the tree of a deck has fewer minimal cut sets than this number, namely so many
pub record HasFewerCuts (bytes : List ℕ) (number count : ℕ) : Type 0 where
  pub tree : FaultTree
  pub stands : StandsFor bytes tree
  pub cuts : List (List ℕ)
  pub all : IsCutList tree cuts
  pub counted : count ≡ length cuts
  pub fewer : count < number

-- the tree of a deck has a cut list that is too heavy
pub record IsTooHeavy (bytes : List ℕ) : Type 0 where
  pub tree : FaultTree
  pub stands : StandsFor bytes tree
  pub heavy : HasHeavyCutList tree

-- The cause of a refusal, for the words and the input that was held, of which a rest is held afterwards; the faults of
-- reading rose in this sense.
abbrev pub HasCause : List (List ℕ) → Option (List ℕ) → Option (List ℕ) → Type 0 → Refusal → Type 0
HasCause words held left rose Usage = asked words ≡ None
HasCause words held left rose ReadFault = rose
HasCause words held left rose TooLong = IsBeyond held left
HasCause words held left rose (Fault fault) = OfInput held left (λ bytes. IsDeckFault IfAny bytes fault)
HasCause words held left rose ListLimit = OfInput held left IsTooHeavy
HasCause words held left rose (NoSuchCut number count) =
    (asked words ≡ Some (Cut number)) × OfInput held left (λ bytes. HasFewerCuts bytes number count)
