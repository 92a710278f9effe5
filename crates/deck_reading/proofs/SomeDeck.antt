-- A deck is read: as a tree and its crews, or by its first fault.
use Rattle.std.specs.Prelude.{◌≡◌, ◌⊎◌, ℕ, All, List, drop, Option, Some, None, Result, Ok, Err}
use Rattle.std.proofs.Common.{sym, ap, subst, ◌∙◌, refl, inl, inr}
use Rattle.fault_definitions.specs.{Tree.FaultTree, WellFormed.IsTree}
use Rattle.fault_words.specs.declared.place.Place.{Place}
use Rattle.galileo_tree.specs.Grammar.{IsReading, at_end, at_lexeme, at_token}
use Rattle.galileo_tree.specs.{Lexeme.place_at, Parsed.lexemes_of, Parsed.parsed_text, ReadTree.KeepsForm}
use Rattle.galileo_tree.specs.{ReadTree.ReadTree, declared.fault.ParseFault.ParseFault}
use Rattle.galileo_tree.specs.declared.fault.ParseFault.TheVariants.{Lex, Expected, NoMemory}
use Rattle.tree_check.specs.{Checked.IsFirstFault, Checked.Stands, declared.fault.CheckCode.CheckCode}
use Rattle.crew_script.specs.{Crews.crews_of, CrewsOf.Answers, Deck.lines_of, Deck.split_of}
use Rattle.crew_script.specs.{declared.deck.CrewsAt.CrewsAt, declared.dockets.Crew.Crew}
use Rattle.crew_script.specs.{declared.fault.CrewFault.CrewFault, declared.fault.CrewFault.TheVariants.Fault}
use Rattle.crew_script.specs.declared.fault.CrewFault.TheVariants as crew
use Rattle.deck_reading.specs.{declared.fault.DeckFault.DeckFault, declared.deck.CrewPart.CrewPart}
use Rattle.deck_reading.specs.declared.fault.FaultCode.TheVariants as report
use Rattle.deck_reading.specs.declared.deck.CrewPart.TheVariants.{Unread, IfAny, Needed}
use Rattle.deck_reading.specs.Deck.{StandsFor, crew_part, crews_behind, tree_part}
use Rattle.deck_reading.specs.Faults.{HasDeck, HasDeckFault, IsFaultOf, IsTreeFault}
use Rattle.deck_reading.specs.Faults.{LacksCrews, bad_crews, bad_tree, crews_read, crews_said, no_crew_part, no_crews}

-- ---- the tree part

module _ (reads : (text : List ℕ) → IsReading (lexemes_of text) (parsed_text text))
    (form : (text : List ℕ) (read : ReadTree) → parsed_text text ≡ Ok read → All KeepsForm read.statements)
    (checks : (read : ReadTree) → All KeepsForm read.statements
    → ((tree : FaultTree) × Stands read tree × IsTree tree)
    ⊎ ((code : CheckCode) × (place : Place) × IsFirstFault read code place)) where
  abbrev HasTree : List ℕ → Type 0
  HasTree bytes = (tree : FaultTree) × StandsFor bytes tree

  abbrev HasTreeFault : List ℕ → Type 0
  HasTreeFault bytes = (fault : DeckFault) × IsTreeFault bytes fault

  by_parse : (bytes : List ℕ) (said : Result ReadTree ParseFault) → parsed_text (tree_part bytes) ≡ said
      → HasTree bytes ⊎ HasTreeFault bytes
  by_parse bytes (Ok read) is =
      elim (checks read (form (tree_part bytes) read is)) [
        | inl (tree, stands, kept) ↦ inl (tree, record { read = read; parsed = is; stands = stands; kept = kept })
        | inr (code, place, first) ↦
            let fault : DeckFault = record { code = report.Check code; place = place } in
            inr (fault, subst (λ r. IsFaultOf r fault) (sym is) (code, refl, first))
      ]
  by_parse bytes (Err (Lex found)) is =
      let fault : DeckFault = record { code = report.Lex found.code; place = place_at found.place } in
      inr (fault, subst (λ r. IsFaultOf r fault) (sym is) refl)
  by_parse bytes (Err (Expected wanted place)) is =
      let fault : DeckFault = record { code = report.Expected wanted; place = place } in
      inr (fault, subst (λ r. IsFaultOf r fault) (sym is) refl)
  by_parse bytes (Err NoMemory) is =
      elim (subst (IsReading (lexemes_of (tree_part bytes))) is (reads (tree_part bytes))) [
        | at_lexeme front lexeme back wanted split viable stuck expects no_memory ↦ absurd cc
        | at_end place wanted ending viable none expects no_memory ↦ absurd cc
        | at_token found ending viable no_memory ↦ absurd cc
      ]

  tree_or_fault : (bytes : List ℕ) → HasTree bytes ⊎ HasTreeFault bytes
  tree_or_fault bytes = by_parse bytes (parsed_text (tree_part bytes)) refl

  -- ---- the crew part

  module _ (answers : (number : ℕ) (bytes : List ℕ) → Answers number (lines_of bytes) (crews_of number bytes)) where
    no_want_of_memory : (bytes : List ℕ) (at : Option CrewsAt) → crews_said (crews_behind bytes at) ≡ Err crew.NoMemory
        → ⊥
    no_want_of_memory bytes None is = absurd cc
    no_want_of_memory bytes (Some at) is =
        subst (Answers at.line (lines_of (drop at.start bytes))) (said (crews_of at.line (drop at.start bytes)) is)
        (answers at.line (drop at.start bytes))
      where
        said : (read : Result (List Crew) CrewFault) → crews_said (Some read) ≡ Err crew.NoMemory
            → read ≡ Err crew.NoMemory
        said (Ok crews) is = absurd cc
        said (Err fault) is = let same : fault ≡ crew.NoMemory = cc in ap (λ f. Err f) same

    read_memory : (part : CrewPart) (bytes : List ℕ) → crews_read part bytes ≡ Err crew.NoMemory → ⊥
    read_memory Unread bytes is = absurd cc
    read_memory IfAny bytes is = no_want_of_memory bytes (split_of bytes).crews is
    read_memory Needed bytes is = no_want_of_memory bytes (split_of bytes).crews is

    -- ---- the deck

    lacks_or_has : (part : CrewPart) (bytes : List ℕ) (said : Option (Result (List Crew) CrewFault))
        → crew_part bytes ≡ said → LacksCrews part bytes ⊎ (¬ LacksCrews part bytes)
    lacks_or_has Unread bytes said is = inr (λ lacks. let clash = lacks.0 in absurd cc)
    lacks_or_has IfAny bytes said is = inr (λ lacks. let clash = lacks.0 in absurd cc)
    lacks_or_has Needed bytes None is = inl (refl, is)
    lacks_or_has Needed bytes (Some said) is = inr (λ lacks. let clash = sym is ∙ lacks.1 in absurd cc)

    behind_tree : {part : CrewPart} {bytes : List ℕ} {tree : FaultTree} → ¬ LacksCrews part bytes → StandsFor bytes tree
        → (said : Result (Option (List Crew)) CrewFault)
        → crews_read part bytes ≡ said → HasDeck part bytes ⊎ HasDeckFault part bytes
    behind_tree {tree} has stands (Ok crews) is =
        inl (tree, crews, record { has_crews = has; stands = stands; said = is })
    behind_tree {tree} has stands (Err (Fault code place)) is =
        let fault : DeckFault = record { code = report.Crew code; place = place } in
        inr (fault, bad_crews tree code place stands is refl)
    behind_tree {part} {bytes} has stands (Err crew.NoMemory) is = absurd (read_memory part bytes is)

    pub deck_or_fault : (part : CrewPart) (bytes : List ℕ) → HasDeck part bytes ⊎ HasDeckFault part bytes
    deck_or_fault part bytes =
        elim (lacks_or_has part bytes (crew_part bytes) refl) [
          | inl lacks ↦ inr (no_crew_part bytes, no_crews lacks refl)
          | inr has ↦ elim (tree_or_fault bytes) [
            | inl (tree, stands) ↦ behind_tree has stands (crews_read part bytes) refl
            | inr (fault, refused) ↦ inr (fault, bad_tree has refused)
          ]
        ]
