-- From a tree that was read and a cut set that was looked for to the picture that the words ask for, or the cause of
-- its refusal.
use Rattle.std.specs.Prelude.{◌≡◌, ℕ, ◌<◌, ◌≤◌, List, ◌++◌, length, Option, Some, None}
use Rattle.std.specs.Io.KnownBytes.{Consumes, IsAtEnd}
use Rattle.std.proofs.Common.{refl, sym, ap, ◌∙◌, subst, append-nil}
use Rattle.edge_io.specs.declared.reading.TheConstants.{INPUT_LIMIT}
use Rattle.fault_definitions.specs.Tree.{FaultTree}
use Rattle.deck_reading.specs.{Deck.StandsFor, Ends.IsDeckEnd, Faults.IsDeckFault}
use Rattle.deck_reading.specs.{declared.deck.CrewPart.TheVariants.IfAny, declared.deck.DeckEnd.DeckEnd}
use Rattle.deck_reading.specs.declared.deck.DeckEnd.TheVariants as end
use Rattle.outage_engine.specs.Gives.{OfInput}
use Rattle.tree_picture.specs.PictureText.{picture_text}
use Rattle.picture_engine.specs.Finding.{IfRefused, IsCutRefusal, IsMarkRefusal, IsMarkedTree}
use Rattle.picture_engine.specs.Finding.{IsPictureOf, IsReadRefusal, no_picture, text_of}
use Rattle.picture_engine.specs.Pictures.{AreMarked, IsPictureFor, IsPictureText}
use Rattle.picture_engine.specs.Refusals.{HasCause, HasFewerCuts, IsTooHeavy}
use Rattle.picture_engine.specs.{Words.asked, declared.finding.Picture.Picture, declared.refusal.NoPicture.NoPicture}
use Rattle.picture_engine.specs.{declared.refusal.NoPicture.TheVariants.Refused}
use Rattle.picture_engine.specs.{declared.refusal.NoPicture.TheVariants.NoMemory, declared.refusal.Refusal.Refusal}
use Rattle.picture_engine.specs.{declared.words.Mark.Mark, declared.words.Mark.TheVariants.Cut}
use Rattle.picture_engine.specs.declared.refusal.Refusal.TheVariants.{Usage, ReadFault, TooLong, Fault, ListLimit}
use Rattle.picture_engine.specs.declared.refusal.Refusal.TheVariants.{NoSuchCut}

-- ---- facts of an input

-- a fact of the bytes of an input that follows from another
pub of_input : (held left : Option (List ℕ)) (P Q : List ℕ → Type 0) → ((bytes : List ℕ) → P bytes → Q bytes)
    → OfInput held left P → OfInput held left Q
of_input None left P Q more is = tt
of_input (Some bytes) None P Q more is = absurd is
of_input (Some bytes) (Some rest) P Q more (at_end, within, holds) = (at_end, within, more bytes holds)

-- a fact of the bytes that were read to the end
pub of_whole : (held left : Option (List ℕ)) {bytes given : List ℕ} (P : List ℕ → Type 0) → given ≡ bytes
    → Consumes held left bytes → IsAtEnd left → length bytes ≤ INPUT_LIMIT → P given → OfInput held left P
of_whole None left P is consumes at_end within holds = tt
of_whole (Some all) None P is consumes at_end within holds = absurd consumes
of_whole (Some all) (Some rest) {bytes} P is consumes at_end within holds =
    let same : all ≡ bytes = consumes ∙ ap (λ l. bytes ++ l) at_end ∙ append-nil bytes in
    (at_end, subst (λ l. length l ≤ INPUT_LIMIT) (sym same) within, subst P (is ∙ sym same) holds)

-- ---- the tree

pub read_refused : (held left : Option (List ℕ)) (rose : Type 0) {bytes given : List ℕ} (end : DeckEnd)
    → given ≡ bytes → Consumes held left bytes → IsAtEnd left → length bytes ≤ INPUT_LIMIT
    → IsDeckEnd IfAny given end → IfRefused (IsReadRefusal held left rose) (no_picture end)
read_refused held left rose (end.Fault fault) is consumes at_end within holds =
    of_whole held left (λ b. IsDeckFault IfAny b fault) is consumes at_end within holds
read_refused held left rose end.NoMemory is consumes at_end within free = tt

-- ---- the cut set

-- ---- the picture

module _ (words : List (List ℕ)) (held left : Option (List ℕ)) (mark : Mark) (tree : FaultTree)
    (ask : asked words ≡ Some mark) (stands : OfInput held left (λ bytes. StandsFor bytes tree)) where
  pub picture_of : {picture : Picture} → IsMarkedTree mark tree picture → IsPictureOf words held left picture
  picture_of {picture} is = record {
    mark = mark;
    words_ask = ask;
    stands = subst (λ t. OfInput held left (λ bytes. StandsFor bytes t)) (sym is.of_tree) stands;
    marked = subst (λ t. AreMarked mark t picture.marked.items) (sym is.of_tree) is.marked;
  }

  marking_cause : (rose : Type 0) (number : ℕ) (refusal : Refusal) → mark ≡ Cut number
      → IsCutRefusal number tree refusal → HasCause words held left rose refusal
  marking_cause rose number ListLimit same heavy =
      of_input held left (λ bytes. StandsFor bytes tree) IsTooHeavy
      (λ bytes is. record { tree = tree; stands = is; heavy = heavy }) stands
  marking_cause rose number (NoSuchCut numbered there) same (is, cuts, all, counted, fewer) = (
    ask ∙ ap (λ m. Some m) same ∙ ap (λ n. Some (Cut n)) (sym is),
    of_input held left (λ bytes. StandsFor bytes tree) (λ bytes. HasFewerCuts bytes numbered there)
        (λ bytes deck. record {
          tree = tree;
          stands = deck;
          cuts = cuts;
          all = all;
          counted = counted;
          fewer = subst (λ n. there < n) (sym is) fewer;
        }) stands,
  )
  marking_cause rose number ReadFault same is = absurd is
  marking_cause rose number TooLong same is = absurd is
  marking_cause rose number (Fault fault) same is = absurd is
  marking_cause rose number Usage same is = absurd is

  pub mark_cause : (rose : Type 0) (why : NoPicture) → IfRefused (IsMarkRefusal mark tree) why
      → IfRefused (HasCause words held left rose) why
  mark_cause rose (Refused refusal) (number, same, is) = marking_cause rose number refusal same is
  mark_cause rose NoMemory is = tt

pub picture_for : {words : List (List ℕ)} {held left : Option (List ℕ)} {picture : Picture}
    → IsPictureOf words held left picture
    → IsPictureFor words held left (text_of picture)
unfolding text_of
picture_for {held} {left} {picture} is = record {
  mark = is.mark;
  words_ask = is.words_ask;
  of_input =
      of_input held left (λ bytes. StandsFor bytes picture.tree)
      (λ bytes. IsPictureText is.mark bytes (picture_text picture.tree picture.marked.items))
      (λ bytes deck. record {
        tree = picture.tree;
        stands = deck;
        marked = picture.marked.items;
        are_marked = is.marked;
        is = refl;
      }) is.stands;
}
