-- That a table by number tells the same clashes as the list of earlier uses.
use Rattle.std.proofs.Common.{◌≡◌, ℕ, suc, ◌+◌, ◌<◌, ◌≤◌, Bool, true, false, List, [], ◌∷◌, ◌++◌, length, drop, get_or}
use Rattle.std.proofs.Common.{replicate, refl, sym, ◌∙◌, ap, subst, ◌⊎◌, inl, inr, arith, length-set, get_or-set_same}
use Rattle.std.proofs.Common.{get_or-set_other, append_assoc}
use Rattle.std.specs.Prelude.{if◌then◌else◌, ◌==◌, ◌&&◌, ◌||◌, not, All, Some, None}
use Rattle.std.specs.List.{list_any}
use Rattle.std.proofs.lemmas.Bool.{cases_eq, eq-eqb, ne_eqb}
use Rattle.std.proofs.lemmas.List.{length-replicate, get_or-replicate}
use Rattle.fault_words.specs.declared.place.Place.{Place}
use Rattle.tree_check.proofs.FirstPlaces.{first_of_more, first_of_some, drop_at}
use Rattle.tree_check.specs.{declared.numbered.Numbered.Numbered, declared.numbered.NumberedGate.NumberedGate}
use Rattle.tree_check.specs.{declared.spares.EarlierUses.EarlierUses, Numbered.is_spare_kind}
use Rattle.tree_check.specs.declared.spares.EarlierUses.TheVariants.{Unused, FirstOnly, Otherwise}
use Rattle.tree_check.specs.Classes.{first, SpareUse, later_uses, uses_of, spare_uses_in, spare_uses, clash}
use Rattle.tree_check.specs.Classes.{shared_after, shared_spares}
use Rattle.tree_check.specs.SpareTable.{AreWithin, noted, clashes_with, earlier_uses, table_with, table_after}
use Rattle.tree_check.specs.SpareTable.{clashes_by}

-- how some uses have used an event, the last first
abbrev uses_by : List SpareUse → ℕ → EarlierUses
uses_by [] number = Unused
uses_by (e ∷ earlier) number =
    if e.input.number == number then noted (uses_by earlier number) e.is_first else uses_by earlier number

one_more : (same is_first later_first : Bool) (uses : EarlierUses)
    → ((same && not (is_first && later_first)) || clashes_with uses later_first)
    ≡ clashes_with (if same then noted uses is_first else uses) later_first
one_more false is_first later_first uses = refl
one_more true true true Unused = refl
one_more true true true FirstOnly = refl
one_more true true true Otherwise = refl
one_more true true false Unused = refl
one_more true true false FirstOnly = refl
one_more true true false Otherwise = refl
one_more true false later_first Unused = refl
one_more true false later_first FirstOnly = refl
one_more true false later_first Otherwise = refl

clash_told : (earlier : List SpareUse) (later : SpareUse)
    → list_any (λ e. clash e later) earlier ≡ clashes_with (uses_by earlier later.input.number) later.is_first
clash_told [] later = refl
clash_told (e ∷ earlier) later =
    ap (λ b. clash e later || b) (clash_told earlier later)
    ∙ one_more (e.input.number == later.input.number) e.is_first later.is_first (uses_by earlier later.input.number)

-- the table says of each event up to a number how it was used
record Knows (nodes : ℕ) (earlier : List SpareUse) (table : List EarlierUses) : Type 0 where
  all : length table ≡ suc nodes
  at : (number : ℕ) → number ≤ nodes → get_or table number Unused ≡ uses_by earlier number

knows_more : (nodes : ℕ) (earlier : List SpareUse) (table : List EarlierUses) (later : SpareUse)
    → later.input.number ≤ nodes → Knows nodes earlier table → Knows nodes (later ∷ earlier) (table_with table later)
knows_more nodes earlier table later low h = record {
  all = length-set table later.input.number (noted (earlier_uses table later.input.number) later.is_first) ∙ h.all;
  at = λ number within. at number within (cases_eq later.input.number number);
}
  where
    reach : later.input.number < length table
    reach = omega (arith, h.all)

    at : (number : ℕ) → number ≤ nodes → (later.input.number ≡ number) ⊎ (later.input.number ≡ number → ⊥)
        → get_or (table_with table later) number Unused ≡ uses_by (later ∷ earlier) number
    at number within (inl same) =
        subst (λ n. get_or (table_with table later) n Unused ≡ uses_by (later ∷ earlier) n) same
        (get_or-set_same table later.input.number (noted (earlier_uses table later.input.number) later.is_first) Unused
        reach
        ∙ ap (λ uses. noted uses later.is_first) (h.at later.input.number low)
        ∙ ap (λ b. if b then noted (uses_by earlier later.input.number) later.is_first
        else uses_by earlier later.input.number) (sym (eq-eqb later.input.number later.input.number refl)))
    at number within (inr apart) =
        let other : (number ≡ later.input.number → ⊥) = λ e. apart (sym e) in
        get_or-set_other table later.input.number number (noted (earlier_uses table later.input.number) later.is_first)
        Unused other
        ∙ h.at number within
        ∙ ap (λ b. if b then noted (uses_by earlier number) later.is_first else uses_by earlier number)
        (sym (ne_eqb later.input.number number apart))

-- no number of these uses is above the number
abbrev AreLow : ℕ → List SpareUse → Type 0
AreLow nodes [] = Unit {0}
AreLow nodes (later ∷ uses) = (later.input.number ≤ nodes) × AreLow nodes uses

told : (nodes : ℕ) (uses earlier : List SpareUse) (table : List EarlierUses) → AreLow nodes uses
    → Knows nodes earlier table → clashes_by table uses ≡ shared_after earlier uses
told nodes [] earlier table low h = refl
told nodes (later ∷ uses) earlier table low h =
    ap (λ b. (if b then later.input.place ∷ [] else []) ++ clashes_by (table_with table later) uses) same
    ∙ ap (λ rest. (if list_any (λ e. clash e later) earlier then later.input.place ∷ [] else []) ++ rest)
    (told nodes uses (later ∷ earlier) (table_with table later) low.1
    (knows_more nodes earlier table later low.0 h))
  where
    same : clashes_with (earlier_uses table later.input.number) later.is_first ≡ list_any (λ e. clash e later) earlier
    same =
        ap (λ known. clashes_with known later.is_first) (h.at later.input.number low.0) ∙ sym (clash_told earlier later)

low_append : (nodes : ℕ) (xs ys : List SpareUse) → AreLow nodes xs → AreLow nodes ys → AreLow nodes (xs ++ ys)
low_append nodes [] ys low low' = low'
low_append nodes (x ∷ xs) ys low low' = (low.0, low_append nodes xs ys low.1 low')

module _ (nodes : ℕ) where
  low_later : (inputs : List Numbered) → All (λ input. input.number ≤ nodes) inputs → AreLow nodes (later_uses inputs)
  low_later [] within = tt
  low_later (input ∷ inputs) within =
      (within 0 input (omega arith), low_later inputs (λ k d short. within (suc k) d (omega arith)))

  low_of : (inputs : List Numbered) → All (λ input. input.number ≤ nodes) inputs → AreLow nodes (uses_of inputs)
  low_of [] within = tt
  low_of (input ∷ inputs) within =
      (within 0 input (omega arith), low_later inputs (λ k d short. within (suc k) d (omega arith)))

  low_if : (b : Bool) (uses : List SpareUse) → AreLow nodes uses → AreLow nodes (if b then uses else [])
  low_if true uses low = low
  low_if false uses low = tt

  low_all : (gates : List NumberedGate) → AreWithin nodes gates → AreLow nodes (spare_uses gates)
  low_all [] within = tt
  low_all (gate ∷ gates) within =
      low_append nodes (spare_uses_in gate) (spare_uses gates)
      (low_if (is_spare_kind gate.kind) (uses_of gate.inputs) (low_of gate.inputs (within 0 gate (omega arith))))
      (low_all gates (λ k d short. within (suc k) d (omega arith)))

  -- a table of unused events tells the clashes
  pub begun : (gates : List NumberedGate) {table : List EarlierUses} → AreWithin nodes gates
      → table ≡ replicate (nodes + 1) Unused → first (clashes_by table (spare_uses gates)) ≡ first (shared_spares gates)
  begun gates {table} within fresh =
      ap first (told nodes (spare_uses gates) [] table (low_all gates within) (record {
        all = ap length fresh ∙ length-replicate (nodes + 1) Unused ∙ omega arith;
        at =
            λ number low. ap (λ t. get_or t number Unused) fresh
            ∙ get_or-replicate (nodes + 1) number Unused Unused (omega arith);
      }))

clashes-append : (table : List EarlierUses) (xs ys : List SpareUse)
    → clashes_by table (xs ++ ys) ≡ clashes_by table xs ++ clashes_by (table_after table xs) ys
clashes-append table [] ys = refl
clashes-append table (x ∷ xs) ys =
    ap (λ rest. (if clashes_with (earlier_uses table x.input.number) x.is_first then x.input.place ∷ [] else [])
    ++ rest) (clashes-append (table_with table x) xs ys)
    ∙ sym (append_assoc (if clashes_with (earlier_uses table x.input.number) x.is_first then x.input.place ∷ [] else [])
    (clashes_by (table_with table x) xs) (clashes_by (table_after (table_with table x) xs) ys))

-- the clashes of the gates from one on, where that one has none and where it has one
module _ (gates : List NumberedGate) (i : ℕ) {gate : NumberedGate} (short : i < length gates)
    (is : gate ≡ get_or gates i gate) (table : List EarlierUses) where
  parts : clashes_by table (spare_uses (drop i gates))
      ≡ clashes_by table (spare_uses_in gate) ++ clashes_by (table_after table (spare_uses_in gate))
      (spare_uses (drop (i + 1) gates))
  parts =
      ap (λ gs. clashes_by table (spare_uses gs)) (drop_at gates i gate short is)
      ∙ clashes-append table (spare_uses_in gate) (spare_uses (drop (i + 1) gates))

  pub next_gate : {new : List EarlierUses} → first (clashes_by table (spare_uses_in gate)) ≡ None
      → new ≡ table_after table (spare_uses_in gate)
      → first (clashes_by new (spare_uses (drop (i + 1) gates))) ≡ first (clashes_by table (spare_uses (drop i gates)))
  next_gate none after =
      ap (λ t. first (clashes_by t (spare_uses (drop (i + 1) gates)))) after
      ∙ sym (ap first parts ∙ first_of_more (clashes_by table (spare_uses_in gate))
      (clashes_by (table_after table (spare_uses_in gate)) (spare_uses (drop (i + 1) gates))) none)

  pub clash_here : (place : Place) → first (clashes_by table (spare_uses_in gate)) ≡ Some place
      → first (clashes_by table (spare_uses (drop i gates))) ≡ Some place
  clash_here place some =
      ap first parts ∙ first_of_some (clashes_by table (spare_uses_in gate))
      (clashes_by (table_after table (spare_uses_in gate)) (spare_uses (drop (i + 1) gates))) place some

-- the inputs of a spare gate that are left, as uses, by whether the first of them is the gate's first
abbrev pub uses_from : Bool → List Numbered → List SpareUse
uses_from is_first [] = []
uses_from is_first (input ∷ inputs) = record { input = input; is_first = is_first } ∷ later_uses inputs
