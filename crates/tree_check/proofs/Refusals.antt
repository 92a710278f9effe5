-- A fault of a class, where the classes before it don't occur, is the first fault; and what is known of the text once a
-- group of classes is tried.
use Rattle.std.proofs.Common.{◌≡◌, ℕ, ◌≤◌, true, length, List, [], ◌∷◌, ◌++◌, take, sym, ap, ◌∙◌, subst}
use Rattle.fault_words.specs.{declared.place.Place.Place, Names.all_differ}
use Rattle.galileo_tree.specs.{ReadTree.ReadTree, declared.raw.Statement.Statement}
use Rattle.tree_check.specs.{declared.fault.CheckCode.CheckCode, declared.fault.CheckCode.TheVariants.DuplicateName}
use Rattle.tree_check.specs.{declared.fault.CheckCode.TheVariants.Undefined, declared.fault.CheckFault.CheckFault}
use Rattle.tree_check.specs.{declared.fault.CheckFault.TheVariants.Fault}
use Rattle.tree_check.specs.{declared.fault.CheckFault.TheVariants.NoMemory, Classes.undefined, Found.IsFoundAs}
use Rattle.tree_check.specs.{Examined.AreParts, Examined.read_of, Numbering.IsDeckOf, Said.names, Said.uses}
use Rattle.tree_check.specs.{declared.numbered.NumberedText.NumberedText, declared.numbered.Parts.Parts}
use Rattle.tree_check.specs.Checked.{places, NoneOf, FirstOf, IsFirstFault, IsRefusal, before_cycles}
use Rattle.tree_check.proofs.Differ.{no_repeat}

refused_at : (read : ReadTree) (earlier : List CheckCode) (code : CheckCode)
    → ((p : Place) → FirstOf read earlier code p → IsFirstFault read code p)
    → NoneOf read earlier → (e : CheckFault) → IsFoundAs code (places read code) e → IsRefusal read e
refused_at read earlier code ok none NoMemory h = tt
refused_at read earlier code ok none (Fault found p) h = subst (λ c. IsFirstFault read c p) (sym h.0) (ok p (none, h.1))

-- some classes more don't occur
pub NoneOf-append : (read : ReadTree) (earlier later : List CheckCode) → NoneOf read earlier → NoneOf read later
    → NoneOf read (earlier ++ later)
NoneOf-append read [] later none more = more
NoneOf-append read (code ∷ earlier) later none more = (none.0, NoneOf-append read earlier later none.1 more)

-- a fault of each of some classes is the first one where none of the earlier classes occurs
abbrev pub AreFirst : ReadTree → List CheckCode → List CheckCode → Type 0
AreFirst read earlier [] = Unit {0}
AreFirst read earlier (code ∷ later) =
    ((place : Place) → FirstOf read earlier code place → IsFirstFault read code place)
    × AreFirst read (earlier ++ code ∷ []) later

module _ (read : ReadTree) where
  -- where the names differ, none is defined twice
  named : NoneOf read (take 2 before_cycles) → all_differ (names read.statements) ≡ true
      → NoneOf read (take 3 before_cycles)
  named none once =
      NoneOf-append read (take 2 before_cycles) (DuplicateName ∷ []) none (no_repeat read.statements once, tt)

  pub use_refused : NoneOf read (take 2 before_cycles) → all_differ (names read.statements) ≡ true → (e : CheckFault)
      → {index : List (List ℕ)} {text : List Statement} → index ≡ names read.statements → text ≡ read.statements
      → IsFoundAs Undefined (undefined index (uses text)) e → IsRefusal read e
  use_refused none once e {text} same same' found =
      refused_at read (take 3 before_cycles) Undefined (λ p q. q) (named none once) e
      (subst (λ t. IsFoundAs Undefined (undefined (names read.statements) (uses t)) e) same'
      (subst (λ n. IsFoundAs Undefined (undefined n (uses text)) e) same found))

  -- the parts of a text whose names are all defined
  pub are_parts : NoneOf read (take 2 before_cycles) → all_differ (names read.statements) ≡ true
      → {index : List (List ℕ)} (deck : NumberedText) {parts : Parts} → index ≡ names read.statements
      → parts.statements.now ≡ read.statements → parts.end ≡ read.end → IsDeckOf index parts.statements.now deck
      → undefined index (uses parts.statements.now) ≡ [] → deck.units ≤ length parts.statements.now
      → parts.units ≡ deck.units → parts.gates.now ≡ deck.gates.items → parts.tops.now ≡ deck.tops
      → AreParts parts
  are_parts none once deck {parts} same text end d known few units gates tops =
      let is : read_of parts ≡ read =
      ap (λ t. record { statements = t; end = parts.end }) text
      ∙ ap (λ e. record { statements = read.statements; end = e }) end in
      let here = same ∙ ap names (sym text) in
      let d' = subst (λ n. IsDeckOf n parts.statements.now deck) here d in record {
        units = units ∙ d'.units;
        gates = gates ∙ d'.gates_all;
        tops = tops ∙ d'.tops_all;
        few = subst (λ u. u ≤ length parts.statements.now) (sym units) few;
        once = subst (λ t. all_differ (names t) ≡ true) (sym text) once;
        none = NoneOf-append (read_of parts) (take 3 before_cycles) (Undefined ∷ [])
            (subst (λ r. NoneOf r (take 3 before_cycles)) (sym is) (named none once))
            (subst (λ n. undefined n (uses parts.statements.now) ≡ []) here known, tt);
      }
