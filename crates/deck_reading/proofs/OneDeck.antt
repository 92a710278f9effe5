-- A deck is read one way at most: as one tree and its crews, or by one first fault.
use Rattle.std.specs.Prelude.{◌≡◌, ℕ, List, Option, Result, Ok, Err}
use Rattle.std.proofs.Common.{sym, ap, subst, ◌∙◌}
use Rattle.fault_definitions.specs.Tree.{FaultTree}
use Rattle.fault_words.specs.declared.place.Place.{Place}
use Rattle.galileo_tree.specs.{declared.fault.ParseFault.ParseFault, Parsed.parsed_text, ReadTree.ReadTree}
use Rattle.galileo_tree.specs.declared.fault.ParseFault.TheVariants.{Lex, Expected, NoMemory}
use Rattle.tree_check.specs.{Checked.Stands, declared.fault.CheckCode.CheckCode}
use Rattle.tree_check.proofs.{OneTree.same_tree, OneFault.no_fault, OneFault.same_fault}
use Rattle.crew_script.specs.{declared.dockets.Crew.Crew, declared.fault.CrewCode.CrewCode}
use Rattle.crew_script.specs.{declared.fault.CrewFault.CrewFault, declared.fault.CrewFault.TheVariants.Fault}
use Rattle.deck_reading.specs.declared.fault.DeckFault.{DeckFault}
use Rattle.deck_reading.specs.declared.fault.FaultCode.{FaultCode}
use Rattle.deck_reading.specs.declared.fault.FaultCode.TheVariants.{Check, Crew as of_crews}
use Rattle.deck_reading.specs.declared.deck.CrewPart.{CrewPart}
use Rattle.deck_reading.specs.Deck.{StandsFor, crew_part, tree_part}
use Rattle.deck_reading.specs.Faults.{IsDeckFault, IsFaultOf, IsTreeFault, IsWellFormed, LacksCrews, bad_crews}
use Rattle.deck_reading.specs.Faults.{bad_tree, crews_read, crews_said, no_crews}

-- ---- the tree part

abbrev read_or : ReadTree → Result ReadTree ParseFault → ReadTree
read_or read (Ok other) = other
read_or read (Err fault) = read

pub same_deck_tree : {bytes : List ℕ} {tree other : FaultTree} → StandsFor bytes tree → StandsFor bytes other
    → tree ≡ other
same_deck_tree {tree} {other} one two =
    let same : one.read ≡ two.read = ap (read_or one.read) (sym one.parsed ∙ two.parsed) in
    same_tree two.read tree other (subst (λ r. Stands r tree) same one.stands) one.kept two.stands two.kept

abbrev check_of : CheckCode → FaultCode
check_of c = Check c

abbrev with_both : FaultCode → Place → DeckFault
with_both c p = record { code = c; place = p }

same_fault_of : (read : Result ReadTree ParseFault) {fault other : DeckFault} → IsFaultOf read fault
    → IsFaultOf read other → fault ≡ other
same_fault_of (Err (Lex found)) one two = one ∙ sym two
same_fault_of (Err (Expected wanted place)) one two = one ∙ sym two
same_fault_of (Err NoMemory) one two = absurd one
same_fault_of (Ok read) {fault} {other} (code, is, first) (code', is', first') =
    let (same, there) = same_fault read code code' fault.place other.place first first' in
    let codes_same : fault.code ≡ other.code = is ∙ ap check_of same ∙ sym is' in
    ap (λ c. with_both c fault.place) codes_same ∙ ap (with_both other.code) there

-- a tree and a fault at once
no_tree_and_fault : {P : Type 0} {bytes : List ℕ} {tree : FaultTree} (fault : DeckFault) → StandsFor bytes tree
    → IsTreeFault bytes fault → P
no_tree_and_fault fault stands refused =
    let (code, is, first) = subst (λ r. IsFaultOf r fault) stands.parsed refused in
    absurd (no_fault stands.read code fault.place stands.stands.faultless first)

-- ---- the crew part

-- where there is no crew part, none is refused
lacking_and_faulty : {P : Type 0} {part : CrewPart} (bytes : List ℕ) (fault : CrewFault) → LacksCrews part bytes
    → crews_read part bytes ≡ Err fault → P
lacking_and_faulty bytes fault (needed, none) err =
    let read : crews_said (crew_part bytes) ≡ Err fault = subst (λ p. crews_read p bytes ≡ Err fault) needed err in
    let clash = subst (λ said. crews_said said ≡ Err fault) none read in
    absurd cc

err_and_ok : {P : Type 0} {said : Result (Option (List Crew)) CrewFault} (fault : CrewFault)
    (crews : Option (List Crew)) → said ≡ Err fault → said ≡ Ok crews → P
err_and_ok fault crews err ok = let clash = sym err ∙ ok in absurd cc

abbrev crew_fault : CrewCode → Place → DeckFault
crew_fault code place = record { code = of_crews code; place = place }

same_crew_fault : {said : Result (Option (List Crew)) CrewFault} (code code' : CrewCode) (place place' : Place)
    → said ≡ Err (Fault code place) → said ≡ Err (Fault code' place') → crew_fault code place ≡ crew_fault code' place'
same_crew_fault code code' place place' is is' =
    let both = sym is ∙ is' in
    let codes : code ≡ code' = cc in
    let places : place ≡ place' = cc in
    ap (λ c. crew_fault c place) codes ∙ ap (crew_fault code') places

-- ---- the deck

pub one_fault : (part : CrewPart) (bytes : List ℕ) (one two : DeckFault) → IsDeckFault part bytes one
    → IsDeckFault part bytes two → one ≡ two
one_fault part bytes one two (no_crews lacks is) (no_crews lacks' is') = is ∙ sym is'
one_fault part bytes one two (no_crews lacks is) (bad_tree has refused) = absurd (has lacks)
one_fault part bytes one two (no_crews lacks is) (bad_crews tree code place stands said is') =
    lacking_and_faulty bytes (Fault code place) lacks said
one_fault part bytes one two (bad_tree has refused) (no_crews lacks is) = absurd (has lacks)
one_fault part bytes one two (bad_tree has refused) (bad_tree has' refused') =
    same_fault_of (parsed_text (tree_part bytes)) refused refused'
one_fault part bytes one two (bad_tree has refused) (bad_crews tree code place stands said is) =
    no_tree_and_fault one stands refused
one_fault part bytes one two (bad_crews tree code place stands said is) (no_crews lacks is') =
    lacking_and_faulty bytes (Fault code place) lacks said
one_fault part bytes one two (bad_crews tree code place stands said is) (bad_tree has refused) =
    no_tree_and_fault two stands refused
one_fault part bytes one two (bad_crews tree code place stands said is)
    (bad_crews tree' code' place' stands' said' is') = is ∙ same_crew_fault code code' place place' said said' ∙ sym is'

-- a deck without a fault has none
pub no_deck_and_fault : {P : Type 0} (part : CrewPart) (bytes : List ℕ) (tree : FaultTree) (crews : Option (List Crew))
    (fault : DeckFault)
    → IsWellFormed part bytes tree crews → IsDeckFault part bytes fault → P
no_deck_and_fault part bytes tree crews fault deck (no_crews lacks is) = absurd (deck.has_crews lacks)
no_deck_and_fault part bytes tree crews fault deck (bad_tree has refused) = no_tree_and_fault fault deck.stands refused
no_deck_and_fault part bytes tree crews fault deck (bad_crews tree' code place stands said is) =
    err_and_ok (Fault code place) crews said deck.said

-- the same crews, whatever tree it is read with
pub same_crews : (part : CrewPart) (bytes : List ℕ) {crews crews' : Option (List Crew)}
    → crews_read part bytes ≡ Ok crews → crews_read part bytes ≡ Ok crews' → crews ≡ crews'
same_crews part bytes is is' = let both = sym is ∙ is' in cc
