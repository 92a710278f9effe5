-- What a text by numbers keeps, for the parts of its tree, once the classes of faults are tried.
use Rattle.std.proofs.Common.{◌≡◌, ℕ, ◌+◌, ◌≤◌, List, [], ◌∷◌, length, map, sym, ap, subst, arith}
use Rattle.std.specs.Prelude.{All}
use Rattle.unit_sets.specs.Unit.{most_units}
use Rattle.fault_definitions.specs.declared.parts.TheConstants.{MOST_GATES}
use Rattle.galileo_tree.specs.{declared.raw.RawTop.RawTop, declared.raw.RawBasic.RawBasic}
use Rattle.galileo_tree.specs.{declared.raw.Statement.Statement}
use Rattle.tree_check.specs.{Examined.AreParts, declared.numbered.NumberedText.NumberedText}
use Rattle.tree_check.specs.{declared.numbered.Parts.Parts, declared.numbered.NumberedGate.NumberedGate}
use Rattle.tree_check.specs.{Numbering.IsDeckOf, SpareTable.AreWithin, TreeOf.first_number}
use Rattle.tree_check.specs.Said.{basics, gates, tops, names, uses}
use Rattle.tree_check.specs.Numbered.{numbered, numbered_gates, unit_total}
use Rattle.tree_check.specs.Classes.{undefined, units_beyond, gates_beyond}
use Rattle.tree_check.proofs.{NonePass.none_beyond, GoodGates.IsAmong, LowNumbers.gates_low, StatementNames.names_total}
use Rattle.tree_check.proofs.{StatementNames.tops_known}

-- the inputs have numbers of nodes
within : (statements : List Statement) {units : ℕ} {all : List NumberedGate} → units ≡ unit_total statements
    → all ≡ numbered_gates statements → AreWithin (units + length all) all
within statements {units} {all} units_are gates_are =
    subst (λ nodes. AreWithin nodes all)
    (let total : length (names statements) ≡ units + length all =
    omega (arith, units_are, ap length gates_are, names_total statements) in total)
    (subst (λ gs. AreWithin (length (names statements)) gs) (sym gates_are)
    (gates_low (names statements) (gates statements)))

pub parts_within : {parts : Parts} → AreParts parts → AreWithin (parts.units + length parts.gates.now) parts.gates.now
parts_within {parts} are = within parts.statements.now are.units are.gates

module _ {statements : List Statement} {deck : NumberedText} (is : IsDeckOf (names statements) statements deck) where
  pub deck_within : AreWithin (deck.units + length deck.gates.items) deck.gates.items
  deck_within = within statements is.units is.gates_all

  -- and so does the top event, where each name that is used is defined
  pub deck_top : undefined (names statements) (uses statements) ≡ []
      → first_number deck.tops ≤ deck.units + length deck.gates.items
  deck_top none =
      subst (λ nodes. first_number deck.tops ≤ nodes)
      (let total : length (names statements) ≡ deck.units + length deck.gates.items =
      omega (arith, is.units, ap length is.gates_all, names_total statements) in total)
      (subst (λ ts. first_number ts ≤ length (names statements)) (sym is.tops_all)
      (low (tops statements) (tops_known statements none)))
    where
      low : (ts : List RawTop) → All (IsAmong (length (names statements)))
          (map (λ (top : RawTop). numbered (names statements) top.name) ts)
          → first_number (map (λ (top : RawTop). numbered (names statements) top.name) ts) ≤ length (names statements)
      low [] known = omega arith
      low (t ∷ ts) known = (known 0 (numbered (names statements) t.name) (omega arith)).1

  pub deck_few_units : units_beyond (basics statements) ≡ [] → deck.units ≤ most_units
  deck_few_units none =
      omega (arith, is.units, none_beyond (λ (basic : RawBasic). basic.name.place) most_units (basics statements) none)

  pub deck_few_gates : gates_beyond (numbered_gates statements) ≡ [] → length deck.gates.items ≤ MOST_GATES
  deck_few_gates none =
      omega (
        arith,
        ap length is.gates_all,
        none_beyond (λ (gate : NumberedGate). gate.name) MOST_GATES
            (numbered_gates statements) none,
      )
