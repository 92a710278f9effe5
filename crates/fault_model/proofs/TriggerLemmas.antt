-- How the table of triggers is filled.
use Rattle.std.proofs.Common.{◌≡◌, ℕ, ◌+◌, ◌-◌, ◌<◌, ◌≤◌, Bool, true, false, List, [], ◌∷◌, ◌++◌, length, take, set}
use Rattle.std.proofs.Common.{get_or, refl, sym, ◌∙◌, ap, subst, inl, inr, arith, length-set, get_or-set_same}
use Rattle.std.proofs.Common.{get_or-set_other, replicate}
use Rattle.std.specs.Prelude.{if◌then◌else◌, ◌==◌, ◌||◌, Option, Some, None, option_to_list, filter_map, zip, All}
use Rattle.std.specs.List.{cons_option}
use Rattle.std.proofs.lemmas.Bool.{cases_eq, cases_Bool, eq-eqb, ne_eqb, eqb-true, or_left, or_right}
use Rattle.std.proofs.lemmas.List.{append-nil, take_all, take_more, length-replicate, get_or-replicate}
use Rattle.std.proofs.{lemmas.List.Elements.filter_map-append, lemmas.Slice.Zip.length-zip, lemmas.Slice.Zip.get_or-zip}
use Rattle.std.proofs.{lemmas.List.Folds.list_any-append}
use Rattle.unit_sets.specs.UnitList.{among}
use Rattle.fault_words.specs.declared.kind.GateKind.{GateKind}
use Rattle.fault_definitions.specs.Trigger.{dependents_in, trigger_by}
use Rattle.fault_model.specs.TriggerTable.{IsUnitBelow, IsTableOf, AreMarks, AddsTriggers}
use Rattle.fault_model.specs.declared.trigger.TriggerTable.{TriggerTable}

-- a table with nothing in it
pub no_lists : {units : ℕ} {table : TriggerTable} → table.lists.items ≡ replicate {A = List ℕ} units []
    → IsTableOf units [] table
no_lists {units} is = record {
  all = ap length is ∙ length-replicate {A = List ℕ} units [];
  triggers = λ unit is_unit.
      ap (λ lists. get_or lists (unit - 1) []) is
      ∙ get_or-replicate {A = List ℕ} units (unit - 1) [] [] (omega (arith, is_unit.0, is_unit.1));
}

pub no_marks : {units : ℕ} {table : TriggerTable} → table.marks.items ≡ replicate units 0 → AreMarks units 1 table
no_marks {units} {table} is = record {
  all = ap length is ∙ length-replicate units 0;
  low = λ unit is_unit.
      let none : get_or table.marks.items (unit - 1) 0 ≡ 0 =
      ap (λ marks. get_or marks (unit - 1) 0) is
      ∙ get_or-replicate units (unit - 1) 0 0 (omega (arith, is_unit.0, is_unit.1)) in
      omega arith;
}

-- among the dependents up to here each unit has the trigger once, and the mark of this `fdep`
pub record HasNoted (units mark trigger : ℕ) (done : List ℕ) (old_lists : List (List ℕ)) (old_marks : List ℕ)
    (lists : List (List ℕ)) (marks : List ℕ) : Type 0 where
  pub lists_all : length lists ≡ units
  pub marks_all : length marks ≡ units
  pub lists_at : (unit : ℕ) → IsUnitBelow units unit
      → get_or lists (unit - 1) [] ≡ get_or old_lists (unit - 1) [] ++ (if among done unit then trigger ∷ [] else [])
  pub marks_at : (unit : ℕ) → IsUnitBelow units unit
      → get_or marks (unit - 1) 0 ≡ (if among done unit then mark else get_or old_marks (unit - 1) 0)

pub among-push : (done : List ℕ) (unit other : ℕ)
    → among (done ++ unit ∷ []) other ≡ (among done other || ((unit == other) || false))
among-push done unit other = list_any-append (λ member. member == other) done (unit ∷ [])

-- a value at a place after one place was set
set_cases : {X : Type 0} (P : X → Type 0) (values : List X) (unit other : ℕ) (value d : X) → 1 ≤ unit
    → unit ≤ length values → 1 ≤ other → (unit ≡ other → P value)
    → ((unit ≡ other → ⊥) → P (get_or values (other - 1) d)) → P (get_or (set values (unit - 1) value) (other - 1) d)
set_cases P values unit other value d one reach one' here there =
    let short : unit - 1 < length values = omega arith in
    elim (cases_eq unit other) [
      | inl same ↦ subst (λ n. P (get_or (set values (unit - 1) value) (n - 1) d)) same
          (subst P (sym (get_or-set_same values (unit - 1) value d short)) (here same))
      | inr apart ↦
          let places_apart : (other - 1 ≡ unit - 1 → ⊥) = λ e. apart (omega arith) in
          subst P (sym (get_or-set_other values (unit - 1) (other - 1) value d places_apart)) (there apart)
    ]

module _ (units mark trigger : ℕ) (old_lists : List (List ℕ)) (old_marks : List ℕ)
    (low : (unit : ℕ) → IsUnitBelow units unit → get_or old_marks (unit - 1) 0 < mark) where
  module _ {done : List ℕ} {lists : List (List ℕ)} {marks : List ℕ} (unit : ℕ) (is_unit : IsUnitBelow units unit)
      (h : HasNoted units mark trigger done old_lists old_marks lists marks) where
    -- a unit with another mark was not noted
    pub not_noted : (get_or marks (unit - 1) 0 ≡ mark → ⊥) → among done unit ≡ false
    not_noted other =
        elim (cases_Bool (among done unit)) [
          | inl known ↦ absurd (other (h.marks_at unit is_unit
              ∙ ap (λ b. if b then mark else get_or old_marks (unit - 1) 0) known))
          | inr fresh ↦ fresh
        ]

    -- a unit with the mark was noted
    pub was_noted : get_or marks (unit - 1) 0 ≡ mark → among done unit ≡ true
    was_noted same =
        elim (cases_Bool (among done unit)) [
          | inl known ↦ known
          | inr fresh ↦
              let at : get_or marks (unit - 1) 0 ≡ get_or old_marks (unit - 1) 0 =
              h.marks_at unit is_unit ∙ ap (λ b. if b then mark else get_or old_marks (unit - 1) 0) fresh in
              let less = low unit is_unit in
              absurd (omega arith)
        ]

    pub noted_new : among done unit ≡ false → HasNoted units mark trigger (done ++ unit ∷ []) old_lists old_marks
        (set lists (unit - 1) (get_or lists (unit - 1) [] ++ trigger ∷ [])) (set marks (unit - 1) mark)
    noted_new fresh = record {
      lists_all = length-set lists (unit - 1) (get_or lists (unit - 1) [] ++ trigger ∷ []) ∙ h.lists_all;
      marks_all = length-set marks (unit - 1) mark ∙ h.marks_all;
      lists_at =
          λ other is_other. set_cases (λ l. l ≡ get_or old_lists (other - 1) []
          ++ (if among (done ++ unit ∷ []) other then trigger ∷ [] else [])) lists unit other
          (get_or lists (unit - 1) [] ++ trigger ∷ []) []
          is_unit.0 (omega (arith, is_unit.1, h.lists_all)) is_other.0
          (λ same. subst (λ n. get_or lists (unit - 1) [] ++ trigger ∷ []
          ≡ get_or old_lists (n - 1) [] ++ (if among (done ++ unit ∷ []) n then trigger ∷ [] else [])) same
          (ap (λ l. l ++ trigger ∷ []) (h.lists_at unit is_unit
          ∙ ap (λ b. get_or old_lists (unit - 1) [] ++ (if b then trigger ∷ [] else [])) fresh
          ∙ append-nil (get_or old_lists (unit - 1) []))
          ∙ ap (λ b. get_or old_lists (unit - 1) [] ++ (if b then trigger ∷ [] else [])) (sym now_known)))
          (λ apart. h.lists_at other is_other ∙ ap (λ b.
          get_or old_lists (other - 1) [] ++ (if b then trigger ∷ [] else [])) (elsewhere other apart));
      marks_at =
          λ other is_other. set_cases (λ m. m ≡ (if among (done ++ unit ∷ []) other then mark
          else get_or old_marks (other - 1) 0)) marks unit other mark 0
          is_unit.0 (omega (arith, is_unit.1, h.marks_all)) is_other.0
          (λ same. subst (λ n. mark ≡ (if among (done ++ unit ∷ []) n then mark else get_or old_marks (n - 1) 0)) same
          (ap (λ b. if b then mark else get_or old_marks (unit - 1) 0) (sym now_known)))
          (λ apart. h.marks_at other is_other ∙ ap (λ b. if b then mark else get_or old_marks (other - 1) 0)
          (elsewhere other apart));
    }
      where
        now_known : among (done ++ unit ∷ []) unit ≡ true
        now_known =
            among-push done unit unit ∙ or_right (among done unit) ((unit == unit) || false)
            (or_left (unit == unit) false (eq-eqb unit unit refl))

        or_nothing : (a b : Bool) → b ≡ false → a ≡ (a || (b || false))
        or_nothing true b e = refl
        or_nothing false true e = absurd cc
        or_nothing false false e = refl

        elsewhere : (other : ℕ) → (unit ≡ other → ⊥) → among done other ≡ among (done ++ unit ∷ []) other
        elsewhere other apart =
            or_nothing (among done other) (unit == other) (ne_eqb unit other apart) ∙ sym (among-push done unit other)

    pub noted_again : among done unit ≡ true → HasNoted units mark trigger (done ++ unit ∷ []) old_lists old_marks lists
        marks
    noted_again known = record {
      lists_all = h.lists_all;
      marks_all = h.marks_all;
      lists_at =
          λ other is_other. h.lists_at other is_other ∙ ap
          (λ b. get_or old_lists (other - 1) [] ++ (if b then trigger ∷ [] else [])) (same other);
      marks_at =
          λ other is_other. h.marks_at other is_other ∙ ap (λ b. if b then mark else get_or old_marks (other - 1) 0)
          (same other);
    }
      where
        grown : (known_here equal : Bool) (at_unit : Bool) → (equal ≡ true → known_here ≡ true)
            → known_here ≡ (known_here || (equal || false))
        grown true equal at_unit h = refl
        grown false true at_unit h = let e = h refl in absurd cc
        grown false false at_unit h = refl

        same : (other : ℕ) → among done other ≡ among (done ++ unit ∷ []) other
        same other =
            grown (among done other) (unit == other) true
            (λ e. subst (λ n. among done n ≡ true) (eqb-true unit other e) known) ∙ sym (among-push done unit other)

module _ {units mark trigger : ℕ} {old_lists : List (List ℕ)} {old_marks : List ℕ}
    (low : (unit : ℕ) → IsUnitBelow units unit → get_or old_marks (unit - 1) 0 < mark)
    {done : List ℕ} {lists : List (List ℕ)} {marks : List ℕ} (unit : ℕ) (is_unit : IsUnitBelow units unit)
    (h : HasNoted units mark trigger done old_lists old_marks lists marks) where
  -- one unit more, whether or not it was noted before
  pub noted_one : {lists' : List (List ℕ)} {marks' : List ℕ}
      → (get_or marks (unit - 1) 0 ≡ mark → lists' ≡ lists) → (get_or marks (unit - 1) 0 ≡ mark → marks' ≡ marks)
      → ((get_or marks (unit - 1) 0 ≡ mark → ⊥) → lists'
      ≡ set lists (unit - 1) (get_or lists (unit - 1) [] ++ trigger ∷ []))
      → ((get_or marks (unit - 1) 0 ≡ mark → ⊥) → marks' ≡ set marks (unit - 1) mark)
      → HasNoted units mark trigger (done ++ unit ∷ []) old_lists old_marks lists' marks'
  noted_one lists_stay marks_stay lists_more marks_more =
      elim (cases_eq (get_or marks (unit - 1) 0) mark) [
        | inl known ↦ rw (lists_stay known, marks_stay known)
            (noted_again units mark trigger old_lists old_marks low unit is_unit h
            (was_noted units mark trigger old_lists old_marks low unit is_unit h known))
        | inr fresh ↦ rw (lists_more fresh, marks_more fresh)
            (noted_new units mark trigger old_lists old_marks low unit is_unit h
            (not_noted units mark trigger old_lists old_marks low unit is_unit h fresh))
      ]

-- ---- over all gates

gate_at : (kinds : List GateKind) (inputs : List (List ℕ)) (i : ℕ) (e : GateKind) {list item : List ℕ}
    → i < length kinds → length inputs ≡ length kinds → list ≡ item → item ≡ get_or inputs i item
    → get_or (zip kinds inputs) i (e, item) ≡ (get_or kinds i e, list)
gate_at kinds inputs i e {item} short all same is =
    let short' : i < length inputs = omega arith in
    get_or-zip kinds inputs i (e, item) short short' ∙ ap (λ (l : List ℕ). (get_or kinds i e, l)) (sym is ∙ sym same)

one_option : (o : Option ℕ) → cons_option o [] ≡ option_to_list o
one_option None = refl
one_option (Some n) = refl

module _ (units : ℕ) (kinds : List GateKind) (inputs : List (List ℕ)) (all : length inputs ≡ length kinds) (i : ℕ)
    (short : i < length kinds) (e : GateKind) {list item : List ℕ} (same : list ≡ item)
    (is : item ≡ get_or inputs i item) where
  short_zip : i < length (zip kinds inputs)
  short_zip = omega (arith, length-zip kinds inputs)

  -- the dependents of the gate at hand
  pub dependents_at : All (λ gate. All (IsUnitBelow units) (dependents_in gate)) (zip kinds inputs)
      → All (IsUnitBelow units) (dependents_in (get_or kinds i e, list))
  dependents_at sound =
      subst (λ gate. All (IsUnitBelow units) (dependents_in gate))
      (gate_at kinds inputs i e short all same is) (sound i (e, item) short_zip)

  -- with its triggers the table is that of one gate more
  pub table_more : {old new : TriggerTable} → IsTableOf units (take i (zip kinds inputs)) old
      → AddsTriggers units (get_or kinds i e, list) old new → IsTableOf units (take (i + 1) (zip kinds inputs)) new
  table_more table adds = record {
    all = adds.all;
    triggers = λ unit is_unit.
        adds.triggers unit is_unit
        ∙ ap (λ l. l ++ option_to_list (trigger_by unit (get_or kinds i e, list))) (table.triggers unit is_unit)
        ∙ ap (λ l. filter_map (trigger_by unit) (take i (zip kinds inputs)) ++ l)
        (sym (one_option (trigger_by unit (get_or kinds i e, list))))
        ∙ sym (filter_map-append (trigger_by unit) (take i (zip kinds inputs)) ((get_or kinds i e, list) ∷ []))
        ∙ ap (λ (gate : GateKind × List ℕ). filter_map (trigger_by unit) (take i (zip kinds inputs) ++ gate ∷ []))
        (sym (gate_at kinds inputs i e short all same is))
        ∙ ap (filter_map (trigger_by unit)) (sym (take_more (zip kinds inputs) i (e, item) short_zip));
  }

pub table_full : {units : ℕ} {gates : List (GateKind × List ℕ)} (n : ℕ) {table : TriggerTable} → length gates ≤ n
    → IsTableOf units (take n gates) table → IsTableOf units gates table
table_full {units} {gates} n {table} long h = subst (λ gs. IsTableOf units gs table) (take_all n gates long) h
