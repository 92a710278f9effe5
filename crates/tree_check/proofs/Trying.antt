-- Classes that are tried one after another, of which a look tells the places.
use Rattle.std.proofs.Common.{◌≡◌, ℕ, List, [], ◌∷◌, ◌++◌, length, map, refl, sym}
use Rattle.std.proofs.Common.{ap, ◌∙◌, subst, inl, inr, ◌⊎◌}
use Rattle.std.specs.Prelude.{filter, if◌then◌else◌, Bool, true, false}
use Rattle.std.specs.List.{flat_map}
use Rattle.fault_words.specs.declared.place.Place.{Place}
use Rattle.galileo_tree.specs.ReadTree.{ReadTree}
use Rattle.tree_check.specs.Classes.{wrong_vote, wrong_votes, dummies, reads_nothing, inputless, is_short_fdep}
use Rattle.tree_check.specs.Classes.{short_fdeps, dependent_gates, spare_gates}
use Rattle.tree_check.specs.{Examined.AreParts, Examined.read_of, declared.fault.CheckCode.CheckCode}
use Rattle.tree_check.specs.{declared.fault.CheckFault.CheckFault, declared.numbered.NumberedGate.NumberedGate}
use Rattle.tree_check.specs.{declared.numbered.Parts.Parts}
use Rattle.tree_check.specs.Numbered.{kinds, numbered_gates, unit_total}
use Rattle.tree_check.specs.Tried.{told, places_at, NoneTold, FirstTold}
use Rattle.tree_check.specs.declared.fault.CheckCode.TheVariants.{Votes, DummyInput, NoInputs, FdepShape}
use Rattle.tree_check.specs.declared.fault.CheckCode.TheVariants.{DependentGate, SpareNotBasic}

-- what is told of the classes that are left is told of all
pub record Comes (read : ReadTree) (all left : List CheckCode) : Type 0 where
  pub none : NoneTold read left → NoneTold read all
  pub found : (fault : CheckFault) → FirstTold read left fault → FirstTold read all fault

-- the items that pass a test, each at its place, are those of which each has its place if it passes
pub passing : {X : Type 0} (place_of : X → Place) (test : X → Bool) (xs : List X)
    → flat_map (λ x. if test x then place_of x ∷ [] else []) xs ≡ map place_of (filter test xs)
passing place_of test [] = refl
passing place_of test (x ∷ xs) =
    ap (λ rest. (if test x then place_of x ∷ [] else []) ++ rest) (passing place_of test xs)
    ∙ by (test x)
  where
    by : (b : Bool) → (if b then place_of x ∷ [] else []) ++ map place_of (filter test xs)
        ≡ map place_of (if b then x ∷ filter test xs else filter test xs)
    by true = refl
    by false = refl

-- ---- what a look at each gate tells

module _ {parts : Parts} (are : AreParts parts) where
  -- what is said of the parts' units and gates, of those of the statements
  of_read : (f : ℕ → List NumberedGate → List Place) → f parts.units parts.gates.now
      ≡ f (unit_total parts.statements.now) (numbered_gates parts.statements.now)
  of_read f = ap (λ u. f u parts.gates.now) are.units ∙ ap (f (unit_total parts.statements.now)) are.gates

  abbrev IsTold : CheckCode → Type 0
  IsTold code =
      flat_map (places_at code parts.units (kinds parts.gates.now)) parts.gates.now ≡ told (read_of parts) code

  votes : IsTold Votes
  votes =
      passing (λ gate. gate.word) (λ (gate : NumberedGate). wrong_vote gate.kind (length gate.inputs)) parts.gates.now
      ∙ of_read (λ u gs. wrong_votes gs)

  nothing_read : IsTold NoInputs
  nothing_read =
      passing (λ gate. gate.word) (reads_nothing parts.units (kinds parts.gates.now)) parts.gates.now
      ∙ of_read inputless

  short : IsTold FdepShape
  short = passing (λ gate. gate.word) is_short_fdep parts.gates.now ∙ of_read (λ u gs. short_fdeps gs)

  pub told_at_gates : {code : CheckCode} → (code ≡ Votes) ⊎ (code ≡ DummyInput) ⊎ (code ≡ NoInputs)
      ⊎ (code ≡ FdepShape) ⊎ (code ≡ DependentGate) ⊎ (code ≡ SpareNotBasic) → IsTold code
  told_at_gates (inl is) = subst IsTold (sym is) votes
  told_at_gates (inr (inl is)) = subst IsTold (sym is) (of_read dummies)
  told_at_gates (inr (inr (inl is))) = subst IsTold (sym is) nothing_read
  told_at_gates (inr (inr (inr (inl is)))) = subst IsTold (sym is) short
  told_at_gates (inr (inr (inr (inr (inl is))))) = subst IsTold (sym is) (of_read dependent_gates)
  told_at_gates (inr (inr (inr (inr (inr is))))) = subst IsTold (sym is) (of_read spare_gates)
