-- The made deck stands for a tree and a crew.
use Rattle.std.proofs.Common.{inl, inr, ◌≡◌, ℕ, zero, suc, ◌+◌, ◌*◌, ◌%◌, ◌<◌, ◌≤◌, true, List, [], ◌∷◌, ◌++◌, length}
use Rattle.std.proofs.Common.{map, refl, sym, ap, subst, ◌∙◌, arith, lit≤, append-nil}
use Rattle.std.specs.Prelude.{◌⊎◌, ◌&&◌, All, codes, Some, Ok, Result}
use Rattle.std.specs.List.{flat_map, list_all, range_with_len}
use Rattle.std.proofs.{lemmas.Bool.and_parts, lemmas.List.FromFn.length-map-range_with_len}
use Rattle.std.proofs.lemmas.List.{length-append, length-map, map-append}
use Rattle.std.proofs.lemmas.List.Elements.{All-cons, All-map, All-nil, All-weaker}
use Rattle.fault_words.specs.{Name.is_bare_name, Name.is_name, declared.attribute.Attribute.Attribute}
use Rattle.fault_words.specs.{declared.place.Place.Place}
use Rattle.fault_definitions.specs.Tree.{FaultTree, gate_count, unit_count}
use Rattle.fault_definitions.specs.WellFormed.{IsTree}
use Rattle.galileo_tree.specs.ReadTree.{HasBareWord, KeepsForm, ReadTree}
use Rattle.tree_check.specs.Checked.{IsFaultless, IsFirstFault, Stands}
use Rattle.tree_check.specs.{Numbered.numbered_gates, Said.basics, declared.fault.CheckCode.CheckCode}
use Rattle.tree_check.proofs.OneFault.{no_fault}
use Rattle.crew_script.specs.{Crews.crews_of, Deck.lines_of, declared.dockets.Crew.Crew}
use Rattle.crew_script.specs.{declared.fault.CrewFault.CrewFault}
use Rattle.crew_script.specs.CrewsOf.{Answers, AreCrews, Say, lines_for}
use Rattle.deck_reading.specs.Deck.{StandsFor, crew_part}
use Rattle.deck_reading.specs.Unplaced.{attributed, said, said_tree}
use Rattle.deck_reading.specs.Written.{AreGood, Basic, Gate, IsGood, Top, WrittenStatement, is_good_attribute, written}
use Rattle.tree_maker.specs.{Names.units_in, WellMade.IsWellMade, WellMade.made_crew}
use Rattle.tree_maker.specs.MadeDeck.{crew_lines, fdep_count, group_count, groups, made_deck, made_statements}
use Rattle.tree_maker.specs.MadeDeck.{return_count, return_line, take_line}
use Rattle.tree_maker.proofs.CrewLines.{asks_of, crew_said, crew_says, request_of, return_ask, returns_say, takes_say}
use Rattle.tree_maker.proofs.Faultless.{count_of_gates, count_of_units, faultless}
use Rattle.tree_maker.proofs.{GoodNames.all_good, Lengths.made_short}

-- ---- what a good statement keeps

bare_words : (attributes : List Attribute) → list_all is_good_attribute attributes ≡ true
    → All HasBareWord (map attributed attributes)
bare_words [] good = All-nil HasBareWord
bare_words (attribute ∷ attributes) good =
    let (here, later) = and_parts (is_good_attribute attribute) (list_all is_good_attribute attributes) good in
    let (word, value) = and_parts (is_name attribute.word && is_bare_name attribute.word)
    (is_name attribute.value) here in
    let (named, bare) = and_parts (is_name attribute.word) (is_bare_name attribute.word) word in
    All-cons HasBareWord (attributed attribute) (map attributed attributes) bare (bare_words attributes later)

keeps_form : (statement : WrittenStatement) → IsGood statement → KeepsForm (said statement)
keeps_form (Top name) good = tt
keeps_form (Gate name kind inputs) good = good.1
keeps_form (Basic name attributes) good = bare_words attributes good.1

forms : (statements : List WrittenStatement) → All IsGood statements → All KeepsForm (map said statements)
forms statements good =
    All-map KeepsForm said statements
    (All-weaker IsGood (λ statement. KeepsForm (said statement)) keeps_form statements good)

-- ---- the crew

length-asks : (s n : ℕ) → length (flat_map asks_of (range_with_len s n)) ≡ 3 * n
length-asks s zero = refl
length-asks s (suc n) = let ih = length-asks (s + 1) n in omega arith

-- ---- the deck

module _ (number : ℕ) where
  abbrev place_of : ℕ → ℕ
  place_of group = (group + number) % 7

  some : 1 ≤ group_count number
  some = let digits : number % 100 < 100 = omega arith in omega arith

  few : group_count number ≤ 200
  few = omega arith

  few_fdeps : fdep_count number ≤ 200
  few_fdeps = let low = few in omega arith

  fits : (q : ℕ) → q < fdep_count number → 5 * q < group_count number
  fits q within = omega arith

  abbrev read : ReadTree
  read = said_tree (made_statements number)

  good : AreGood (made_statements number)
  good = all_good (group_count number) (fdep_count number) place_of few fits

  no_faults : IsFaultless read
  no_faults = faultless (group_count number) (fdep_count number) place_of some few few_fdeps fits

  crew_reads : AreCrews (lines_of (crew_lines number)) (made_crew number ∷ [])
  crew_reads =
      let takes = length-asks 0 (group_count number) in
      let returns = length-map-range_with_len return_ask 0 (return_count number) in
      let long = length-append (flat_map asks_of (groups number))
      (map return_ask (range_with_len 0 (return_count number))) in
      let low = few in
      record {
        say = subst (Say (lines_of (crew_lines number)))
            (ap (λ l. crew_said ∷ l)
            (sym (map-append request_of (flat_map asks_of (groups number))
            (map return_ask (range_with_len 0 (return_count number)))))
            ∙ sym (append-nil (lines_for (made_crew number))))
            (crew_says (flat_map (λ group. flat_map take_line (units_in group)) (groups number) ++ flat_map return_line
            (range_with_len 0 (return_count number)))
            (takes_say 0 (group_count number) (flat_map return_line (range_with_len 0 (return_count number)))
            (omega arith)
            (returns_say 0 (return_count number) (omega arith))));
        differ = refl;
        few_crews = lit≤ tt;
        few_requests = omega arith;
      }

  module _ (checks : (read : ReadTree) → All KeepsForm read.statements
      → ((tree : FaultTree) × Stands read tree × IsTree tree) ⊎ ((code : CheckCode) × (place : Place) × IsFirstFault
      read code place))
      (one_answer : (number : ℕ) (bytes : List ℕ) (read : Result (List Crew) CrewFault)
      → Answers number (lines_of bytes) read → crews_of number bytes ≡ read)
      (behind : (statements : List WrittenStatement) (lines : List ℕ) → AreGood statements
      → crew_part (written statements ++ (codes "@crews\n" ++ lines)) ≡ Some (crews_of (length statements + 2) lines))
      (with_crews : (statements : List WrittenStatement) (lines : List ℕ) (tree : FaultTree) → AreGood statements
      → Stands (said_tree statements) tree
      → IsTree tree → StandsFor (written statements ++ (codes "@crews\n" ++ lines)) tree) where
    of_tree : {tree : FaultTree} → Stands read tree → IsTree tree → IsWellMade number (made_deck number) tree
    of_tree {tree} stands kept = record {
      stands = with_crews (made_statements number) (crew_lines number) tree good stands kept;
      units =
          ap unit_count stands.is
          ∙ length-map (basics read.statements) (λ basic. map (λ raw. raw.attribute) basic.attributes)
          ∙ count_of_units (group_count number) (fdep_count number) place_of some few few_fdeps fits;
      gates =
          ap gate_count stands.is
          ∙ length-map (numbered_gates read.statements) (λ gate. gate.kind)
          ∙ count_of_gates (group_count number) (fdep_count number) place_of some few few_fdeps fits
          ∙ (omega arith);
      crews =
          behind (made_statements number) (crew_lines number) good
          ∙ ap (λ crews. Some crews)
          (one_answer (length (made_statements number) + 2) (crew_lines number)
          (Ok (made_crew number ∷ [])) crew_reads);
      short = made_short number;
    }

    pub well_made : (tree : FaultTree) × IsWellMade number (made_deck number) tree
    well_made = elim (checks read (forms (made_statements number) good)) [
      | inl found ↦ (found.0, of_tree found.1 found.2)
      | inr fault ↦ absurd (no_fault read fault.0 fault.1 no_faults fault.2)
    ]
