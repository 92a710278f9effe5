-- The picture that is found, or why none is.
use Rattle.std.specs.Prelude.{◌≡◌, ℕ, ◌<◌, List, length, Option, Some}
use Rattle.fault_definitions.specs.{Tree.FaultTree, Cut.IsCutList}
use Rattle.cutset_lists.specs.Generation.{HasHeavyCutList}
use Rattle.deck_reading.specs.{Deck.StandsFor, Faults.IsDeckFault, declared.deck.CrewPart.TheVariants.IfAny}
use Rattle.deck_reading.specs.{declared.deck.DeckEnd.DeckEnd}
use Rattle.deck_reading.specs.declared.deck.DeckEnd.TheVariants as end
use Rattle.outage_engine.specs.Gives.{IsBeyond, OfInput}
use Rattle.tree_picture.specs.PictureText.{picture_text}
use Rattle.picture_engine.specs.{Pictures.AreMarked, Words.asked, declared.finding.Picture.Picture}
use Rattle.picture_engine.specs.{declared.refusal.NoPicture.NoPicture, declared.refusal.NoPicture.TheVariants.Refused}
use Rattle.picture_engine.specs.{declared.refusal.NoPicture.TheVariants.NoMemory, declared.refusal.Refusal.Refusal}
use Rattle.picture_engine.specs.{declared.words.Mark.Mark, declared.words.Mark.TheVariants.Cut}
use Rattle.picture_engine.specs.declared.refusal.Refusal.TheVariants.{Usage, ReadFault, TooLong, Fault, ListLimit}
use Rattle.picture_engine.specs.declared.refusal.Refusal.TheVariants.{NoSuchCut}

-- a refusal has this cause; want of memory is free
abbrev pub IfRefused : (Refusal → Type 0) → NoPicture → Type 0
IfRefused P (Refused refusal) = P refusal
IfRefused P NoMemory = Unit {0}

-- the end of a deck as that of a run
abbrev pub no_picture : DeckEnd → NoPicture
no_picture (end.Fault fault) = Refused (Fault fault)
no_picture end.NoMemory = NoMemory

-- the tree, with the units that are marked in it
pub record IsMarkedTree (mark : Mark) (tree : FaultTree) (picture : Picture) : Type 0 where
  pub of_tree : picture.tree ≡ tree
  pub marked : AreMarked mark tree picture.marked.items

-- the picture that the words ask for, of the input that was held, of which a rest is held afterwards
pub record IsPictureOf (words : List (List ℕ)) (held left : Option (List ℕ)) (picture : Picture) : Type 0 where
  pub mark : Mark
  pub words_ask : asked words ≡ Some mark
  pub stands : OfInput held left (λ bytes. StandsFor bytes picture.tree)
  pub marked : AreMarked mark picture.tree picture.marked.items

-- its text, which a proof opens only where it needs to
unfoldable pub text_of : Picture → List ℕ
text_of picture = picture_text picture.tree picture.marked.items

-- ---- why there is none

-- no tree was read
abbrev pub IsReadRefusal : Option (List ℕ) → Option (List ℕ) → Type 0 → Refusal → Type 0
IsReadRefusal held left rose ReadFault = rose
IsReadRefusal held left rose TooLong = IsBeyond held left
IsReadRefusal held left rose (Fault fault) = OfInput held left (λ bytes. IsDeckFault IfAny bytes fault)
IsReadRefusal held left rose ListLimit = ⊥
IsReadRefusal held left rose (NoSuchCut number count) = ⊥
IsReadRefusal held left rose Usage = ⊥

-- a list of so many sets has none of this number
abbrev pub IsNumberRefusal : ℕ → ℕ → Refusal → Type 0
IsNumberRefusal number count (NoSuchCut asked there) = (asked ≡ number) × (there ≡ count) × (count < number)
IsNumberRefusal number count _ = ⊥

-- the cut list is too heavy, or has no set of this number
abbrev pub IsCutRefusal : ℕ → FaultTree → Refusal → Type 0
IsCutRefusal number tree ListLimit = HasHeavyCutList tree
IsCutRefusal number tree (NoSuchCut asked there) =
    (asked ≡ number) × (cuts : List (List ℕ)) × IsCutList tree cuts × (there ≡ length cuts) × (there < number)
IsCutRefusal number tree _ = ⊥

-- a cut set was asked for, and isn't found
abbrev pub IsMarkRefusal : Mark → FaultTree → Refusal → Type 0
IsMarkRefusal mark tree refusal = (number : ℕ) × (mark ≡ Cut number) × IsCutRefusal number tree refusal
