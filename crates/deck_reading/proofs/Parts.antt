-- From the parts of a deck to the deck that a command wants, or its first fault.
use Rattle.std.specs.Prelude.{◌≡◌, ℕ, List, Option, Some, None, Result, Ok, Err, IfOk, IfErr}
use Rattle.std.proofs.Common.{sym, ap, ◌∙◌, inl, inr}
use Rattle.fault_definitions.specs.Tree.{FaultTree}
use Rattle.crew_script.specs.{Deck.split_of, declared.dockets.Crew.Crew, declared.deck.CrewsAt.CrewsAt}
use Rattle.crew_script.specs.{declared.fault.CrewFault.CrewFault}
use Rattle.deck_reading.specs.{declared.deck.CrewPart.CrewPart, declared.deck.DeckEnd.DeckEnd}
use Rattle.deck_reading.specs.{declared.deck.DeckParts.DeckParts, Deck.StandsFor, Deck.crews_behind}
use Rattle.deck_reading.specs.declared.deck.CrewPart.TheVariants.{Unread, IfAny, Needed}
use Rattle.deck_reading.specs.declared.deck.DeckEnd.TheVariants as end
use Rattle.deck_reading.specs.Ends.{IsCrewEnd, IsDeckEnd, IsPartsEnd, IsTreeEnd}
use Rattle.deck_reading.specs.Faults.{IsWellFormed, LacksCrews, bad_crews, bad_tree, crews_read, crews_said}

-- ---- the ends of the parts

pub crew_end : (said : Result (List Crew) CrewFault) (end : DeckEnd) → IsCrewEnd said end
    → IsCrewEnd (crews_said (Some said)) end
crew_end said (end.Fault fault) (code, place, is, same) = (code, place, ap (λ s. crews_said (Some s)) is, same)
crew_end said end.NoMemory free = tt

pub tree_end : {A : Type 0} (bytes : List ℕ) (said : Result A CrewFault) (end : DeckEnd) → IsTreeEnd bytes end
    → IsPartsEnd bytes said end
tree_end bytes said (end.Fault fault) refused = inl refused
tree_end bytes said end.NoMemory free = tt

pub crews_end : {A : Type 0} {bytes : List ℕ} {tree : FaultTree} (said : Result A CrewFault) (end : DeckEnd)
    → StandsFor bytes tree → IsCrewEnd said end → IsPartsEnd bytes said end
crews_end {tree} said (end.Fault fault) stands refused = inr (tree, stands, refused)
crews_end said end.NoMemory stands free = tt

-- ---- the deck

-- the crews that a deck says are those of the crew part that begins there, if any is read
abbrev pub IsReadAt : CrewPart → List ℕ → Option CrewsAt → Type 0
IsReadAt part bytes at = (¬ LacksCrews part bytes) × (crews_read part bytes ≡ crews_said (crews_behind bytes at))

module _ (part : CrewPart) (bytes : List ℕ) where
  not_unread : part ≡ Unread → ¬ LacksCrews part bytes
  not_unread is lacks = let clash = sym is ∙ lacks.0 in absurd cc

  not_if_any : part ≡ IfAny → ¬ LacksCrews part bytes
  not_if_any is lacks = let clash = sym is ∙ lacks.0 in absurd cc

  not_where_some : (at : CrewsAt) → (split_of bytes).crews ≡ Some at → ¬ LacksCrews part bytes
  not_where_some at split lacks = let clash = sym (ap (crews_behind bytes) split) ∙ lacks.1 in absurd cc

  pub at_unread : part ≡ Unread → IsReadAt part bytes None
  at_unread is = (not_unread is, ap (λ p. crews_read p bytes) is)

  pub at_any : part ≡ IfAny → {at : Option CrewsAt} → (split_of bytes).crews ≡ at → IsReadAt part bytes at
  at_any is split = (not_if_any is, ap (λ p. crews_read p bytes) is ∙ ap (λ a. crews_said (crews_behind bytes a)) split)

  pub at_needed : part ≡ Needed → (at : CrewsAt) → (split_of bytes).crews ≡ Some at → IsReadAt part bytes (Some at)
  at_needed is at split =
      (not_where_some at split, ap (λ p. crews_read p bytes) is ∙ ap (λ a. crews_said (crews_behind bytes a)) split)

  module _ (at : Option CrewsAt) (read : IsReadAt part bytes at) where
    pub deck_of_parts : (result : Result DeckParts DeckEnd) → IfOk result (λ deck. StandsFor bytes deck.tree)
        → IfOk result (λ deck. crews_said (crews_behind bytes at) ≡ Ok deck.crews)
        → IfOk result (λ deck. IsWellFormed part bytes deck.tree deck.crews)
    deck_of_parts (Ok deck) stands said = record { has_crews = read.0; stands = stands; said = read.1 ∙ said }
    deck_of_parts (Err end) stands said = tt

    end_is : (end : DeckEnd) → IsPartsEnd bytes (crews_said (crews_behind bytes at)) end → IsDeckEnd part bytes end
    end_is (end.Fault fault) holds = elim holds [
      | inl refused ↦ bad_tree read.0 refused
      | inr (tree, stands, refused) ↦ bad_crews tree refused.0 refused.1 stands (read.1 ∙ refused.2) refused.3
    ]
    end_is end.NoMemory free = tt

    pub end_of_parts : (result : Result DeckParts DeckEnd)
        → IfErr result (IsPartsEnd bytes (crews_said (crews_behind bytes at))) → IfErr result (IsDeckEnd part bytes)
    end_of_parts (Ok deck) holds = tt
    end_of_parts (Err end) holds = end_is end holds
