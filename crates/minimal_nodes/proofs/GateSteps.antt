-- What the calls for a gate and for a unit give.
use Rattle.std.proofs.Common.{Result, IfOk, IfErr, Ok, Err, ◌≡◌, ◌⊎◌, ℕ, ◌||◌, nat_lt, List, [], ◌∷◌, All, get_or}
use Rattle.std.proofs.Common.{length, map, if◌then◌else◌, refl, sym, ◌∙◌, ap, subst, inl, inr, arith}
use Rattle.std.specs.List.{list_any}
use Rattle.std.proofs.lemmas.Bool.{cond-true, lt-ltb}
use Rattle.fault_words.specs.declared.kind.GateKind.{GateKind}
use Rattle.fault_words.specs.declared.kind.GateKind.TheVariants.{And, Pand, Por, Seq, Fdep, Csp, Wsp, Hsp}
use Rattle.zdd_families.proofs.{MapLemmas.family-empty, MinimalLemmas.minimal-none, LeastLemmas.IsLeastFor-same}
use Rattle.zdd_families.proofs.{LeastLemmas.IsLeastFor-itself, StepsLemmas.or_of}
use Rattle.unit_sets.specs.UnitList.{some_within}
use Rattle.zdd_families.specs.Least.{IsLeastFor, IsLeastOfAll}
use Rattle.zdd_families.specs.Least.{IsLeastProductOfAll, IsLeastUnion}
use Rattle.family_memory.specs.Memory.{Held, Has, IsSound, Went, Gave, RanOut, family_in, map_of}
use Rattle.family_memory.proofs.After.{Gave-there, RanOut-then, Went-then, still}
use Rattle.many_families.specs.Lists.{families}
use Rattle.minimal_nodes.specs.Gates.{IsLeastOfGate}
use Rattle.fault_definitions.specs.{CutFamily.IsCutFamily, Trigger.below, WellFormed.IsTree}
use Rattle.fault_definitions.specs.Tree.{FaultTree, IsGateOf, IsNodeOf, IsUnitOf, kind_of}
use Rattle.minimal_nodes.proofs.NodeLaws.{gate_cut_family, unit_cut_family}
use Rattle.tree_families.specs.Recipe.{StandFor, alone}

-- what a call gave for the kind
pub gate_gives : {E : Type 0} {kind other : GateKind} (same : kind ≡ other) (fs : List (List (List ℕ)))
    (before after : Held) (result : Result ℕ E) → IfOk result (Gave (IsLeastOfGate other fs) before after)
    → IfOk result (Gave (IsLeastOfGate kind fs) before after)
gate_gives same fs before after result gave =
    subst (λ (k : GateKind). IfOk result (Gave (IsLeastOfGate k fs) before after)) (sym same) gave

pub gate_given : {kind other : GateKind} (same : kind ≡ other) (fs : List (List (List ℕ))) {before after : Held} {r : ℕ}
    → Gave (IsLeastOfGate other fs) before after r → Gave (IsLeastOfGate kind fs) before after r
gate_given same fs {before} {after} {r} gave =
    subst (λ (k : GateKind). Gave (IsLeastOfGate k fs) before after r) (sym same) gave

-- the kinds that need all of their inputs
pub all_of_kinds : {E : Type 0} {kind : GateKind} (fs : List (List (List ℕ))) (before after : Held)
    (result : Result ℕ E) → (kind ≡ And) ⊎ ((kind ≡ Pand)
    ⊎ ((kind ≡ Seq) ⊎ ((kind ≡ Csp) ⊎ ((kind ≡ Wsp) ⊎ (kind ≡ Hsp)))))
    → IfOk result (Gave (IsLeastProductOfAll fs) before after) → IfOk result (Gave (IsLeastOfGate kind fs) before after)
all_of_kinds fs before after result (inl same) gave = gate_gives same fs before after result gave
all_of_kinds fs before after result (inr (inl same)) gave = gate_gives same fs before after result gave
all_of_kinds fs before after result (inr (inr (inl same))) gave = gate_gives same fs before after result gave
all_of_kinds fs before after result (inr (inr (inr (inl same)))) gave = gate_gives same fs before after result gave
all_of_kinds fs before after result (inr (inr (inr (inr (inl same))))) gave =
    gate_gives same fs before after result gave
all_of_kinds fs before after result (inr (inr (inr (inr (inr same))))) gave =
    gate_gives same fs before after result gave

-- no sets, where nothing is true
pub never_given : {held : Held} (fs : List (List (List ℕ))) → IsSound held → Gave (IsLeastOfGate Fdep fs) held held 0
never_given {held} fs sound =
    Gave-there sound (let few = sound.terminals in omega arith)
    (subst (IsLeastOfGate Fdep fs) (sym (family-empty (map_of held)))
    record { antichain = minimal-none; some_within = λ within. refl })

-- the first family alone
first_is : {held : Held} (list : List ℕ) {r : ℕ} → IsSound held → All (Has held) list
    → r ≡ (if nat_lt 0 (length list) then get_or list 0 0 else 0)
    → Gave (IsLeastOfGate Por (map (family_in held) list)) held held r
first_is {held} [] sound has is =
    subst (Gave (IsLeastOfGate Por []) held held) (sym is)
    (Gave-there {is = IsLeastOfGate Por []} {r = 0} sound (let few = sound.terminals in omega arith)
    (subst (IsLeastOfGate Por []) (sym (family-empty (map_of held)))
    record { antichain = minimal-none; some_within = λ within. refl }))
first_is {held} (q ∷ list) {r} sound has is =
    let here : r ≡ q = is ∙ cond-true (nat_lt 0 (length (q ∷ list))) q 0 (lt-ltb 0 (length (q ∷ list)) (omega arith)) in
    let there : Has held q = has 0 0 (omega arith) in
    subst (Gave (IsLeastOfGate Por (family_in held q ∷ map (family_in held) list)) held held) (sym here)
    (Gave-there {is = IsLeastOfGate Por (family_in held q ∷ map (family_in held) list)} {r = q} sound there
    (IsLeastFor-same (IsLeastFor-itself (sound.antichains q there)) (λ within. refl)))

pub first_given : {held : Held} (list : List ℕ) {r : ℕ} → IsSound held → All (Has held) list
    → r ≡ (if nat_lt 0 (length list) then get_or list 0 0 else 0)
    → Gave (IsLeastOfGate Por (families held list)) held held r
first_given list sound has is = first_is list sound has is

-- ---- a unit

module _ {s0 : Held} (unit : ℕ) (list : List ℕ) (sound : IsSound s0) {s1 : Held} {others : ℕ}
    (gave1 : Gave (IsLeastOfAll (families s0 list)) s0 s1 others) {s2 : Held} {own : ℕ}
    (gave2 : Gave (λ f. f ≡ alone unit) s1 s2 own) where
  pub went_unit : Went s0 s2
  went_unit = Went-then gave1.went gave2.went

  others_is : IsLeastOfAll (families s0 list) (family_in s2 others)
  others_is =
      subst (IsLeastOfAll (families s0 list)) (sym (still gave1.went.sound gave2.went others gave1.has)) gave1.is

  pub unit_gives : {E : Type 0} (s3 : Held) (result : Result ℕ E)
      → IfOk result (Gave (IsLeastUnion (family_in s2 own) (family_in s2 others)) s2 s3)
      → IfOk result (Gave (IsLeastFor (λ within. some_within (alone unit) within
      || list_any (λ family. some_within family within) (families s0 list))) s0 s3)
  unit_gives s3 (Ok r) gave = record {
    went = Went-then went_unit gave.went;
    has = gave.has;
    is =
        IsLeastFor-same gave.is
        (λ within. or_of (ap (λ f. some_within f within) gave2.is) (others_is.some_within within));
  }
  unit_gives s3 (Err e) gave = tt

  pub unit_spent : {E : Type 0} (s3 : Held) (result : Result ℕ E) → IfErr result (λ _. RanOut s2 s3)
      → IfErr result (λ _. RanOut s0 s3)
  unit_spent s3 (Ok r) out = tt
  unit_spent s3 (Err e) out = RanOut-then s3 went_unit out

-- ---- a node's cut family

module _ {E : Type 0} {tree : FaultTree} (kept : IsTree tree) (node : ℕ) (is_node : IsNodeOf tree node)
    (fs : List (List (List ℕ))) (stand : StandFor (IsCutFamily tree) (below tree node) fs) (before after : Held) where
  pub gate_node : {kind : GateKind} → kind ≡ kind_of tree node → IsGateOf tree node → (result : Result ℕ E)
      → IfOk result (Gave (IsLeastOfGate kind fs) before after)
      → IfOk result (Gave (IsCutFamily tree node) before after)
  gate_node same is_gate (Ok r) gave = record {
    went = gave.went;
    has = gave.has;
    is =
        gate_cut_family kept node is_node fs stand is_gate
        (subst (λ (k : GateKind). IsLeastOfGate k fs (family_in after r)) same gave.is);
  }
  gate_node same is_gate (Err e) gave = tt

  pub unit_node : {unit : ℕ} → unit ≡ node → IsUnitOf tree node → (result : Result ℕ E)
      → IfOk result (Gave (IsLeastFor (λ within. some_within (alone unit) within
      || list_any (λ family. some_within family within) fs)) before after)
      → IfOk result (Gave (IsCutFamily tree node) before after)
  unit_node same is_unit (Ok r) gave = record {
    went = gave.went;
    has = gave.has;
    is = unit_cut_family kept node is_node fs stand is_unit
        (subst (λ n. IsLeastFor (λ within. some_within (alone n) within
        || list_any (λ family. some_within family within) fs)
        (family_in after r)) same gave.is);
  }
  unit_node same is_unit (Err e) gave = tt
