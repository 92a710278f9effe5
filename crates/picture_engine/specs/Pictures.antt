-- Which picture the words and the input ask for.
use Rattle.std.specs.Prelude.{◌≡◌, ℕ, ◌-◌, ◌≤◌, List, [], slice_get, Option, Some}
use Rattle.fault_definitions.specs.{Tree.FaultTree, Cut.IsCutList}
use Rattle.deck_reading.specs.Deck.{StandsFor}
use Rattle.outage_engine.specs.Gives.{OfInput}
use Rattle.tree_picture.specs.PictureText.{picture_text}
use Rattle.picture_engine.specs.{Words.asked, declared.words.Mark.Mark, declared.words.Mark.TheVariants.Nothing}
use Rattle.picture_engine.specs.{declared.words.Mark.TheVariants.Cut}

-- the units are those of the minimal cut set of a number, from 1, in the order of the cut list
pub record IsCutNumbered (tree : FaultTree) (number : ℕ) (units : List ℕ) : Type 0 where
  pub cuts : List (List ℕ)
  pub all : IsCutList tree cuts
  pub some : 1 ≤ number
  pub at : slice_get cuts (number - 1) ≡ Some units

-- the units that are marked
abbrev pub AreMarked : Mark → FaultTree → List ℕ → Type 0
AreMarked Nothing tree units = units ≡ []
AreMarked (Cut number) tree units = IsCutNumbered tree number units

-- the picture of the tree that the bytes of a deck stand for, in which these units are marked
pub record IsPictureText (mark : Mark) (bytes text : List ℕ) : Type 0 where
  pub tree : FaultTree
  pub stands : StandsFor bytes tree
  pub marked : List ℕ
  pub are_marked : AreMarked mark tree marked
  pub is : text ≡ picture_text tree marked

-- the picture that the words ask for, of the input that was held, of which a rest is held afterwards
pub record IsPictureFor (words : List (List ℕ)) (held left : Option (List ℕ)) (text : List ℕ) : Type 0 where
  pub mark : Mark
  pub words_ask : asked words ≡ Some mark
  pub of_input : OfInput held left (λ bytes. IsPictureText mark bytes text)
