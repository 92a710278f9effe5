-- Gates in which no class of faults of gates occurs.
use Rattle.std.proofs.Common.{◌≡◌, ℕ, zero, suc, ◌+◌, ◌-◌, ◌*◌, ◌%◌, ◌<◌, ◌≤◌, Bool, false, not, cond, ltb, List}
use Rattle.std.proofs.Common.{[], ◌∷◌, ◌++◌, length, map, refl, ap, ◌∙◌, arith}
use Rattle.std.specs.Prelude.{◌&&◌, All, filter, slice_index_or}
use Rattle.std.specs.List.{flat_map, range_with_len}
use Rattle.std.proofs.lemmas.Bool.{and_right, le-ltb}
use Rattle.std.proofs.lemmas.List.Elements.{All-append, All-cons, All-head, All-tail}
use Rattle.fault_words.specs.declared.kind.GateKind.{GateKind}
use Rattle.fault_words.specs.declared.kind.GateKind.TheVariants.{And, Votes, Pand, Seq, Fdep, Csp, Wsp, Hsp}
use Rattle.tree_check.specs.Classes.{is_empty, dependent_gates, dummies, dummies_in, gates_after_first, inputless}
use Rattle.tree_check.specs.Classes.{is_short_fdep, reads_nothing, short_fdeps, spare_gates, wrong_vote}
use Rattle.tree_check.specs.Classes.{wrong_votes}
use Rattle.tree_check.specs.Numbered.{is_fdep_in, is_spare_kind, kinds}
use Rattle.fault_definitions.specs.Tree.{is_fdep_kind}
use Rattle.tree_maker.specs.MadeDeck as made
use Rattle.tree_maker.proofs.Gates.{Numbered, NumberedGate, fdep_numbered, group_numbered, made_gates, numbered_by, put}
use Rattle.tree_maker.proofs.Gates.{top_numbered}
use Rattle.tree_maker.proofs.Ranges.{All-range}

pub none_passes : {X : Type 0} (test : X → Bool) (xs : List X) → All (λ x. test x ≡ false) xs → filter test xs ≡ []
none_passes test [] fails = refl
none_passes test (x ∷ xs) fails =
    ap (λ b. cond b (x ∷ filter test xs) (filter test xs)) (All-head (λ y. test y ≡ false) x xs fails)
    ∙ none_passes test xs (All-tail (λ y. test y ≡ false) x xs fails)

pub none_gives : {X Y : Type 0} (f : X → List Y) (xs : List X) → All (λ x. f x ≡ []) xs → flat_map f xs ≡ []
none_gives f [] none = refl
none_gives f (x ∷ xs) none =
    ap (λ l. l ++ flat_map f xs) (All-head (λ y. f y ≡ []) x xs none)
    ∙ none_gives f xs (All-tail (λ y. f y ≡ []) x xs none)

-- no class of faults occurs in a gate, where these are units and these the kinds of all gates
pub record IsFine (units : ℕ) (all_kinds : List GateKind) (gate : NumberedGate) : Type 0 where
  pub vote : wrong_vote gate.kind (length gate.inputs) ≡ false
  pub dummies : dummies_in (is_fdep_in units all_kinds) gate ≡ []
  pub reads : reads_nothing units all_kinds gate ≡ false
  pub enough : is_short_fdep gate ≡ false
  pub dependents : gates_after_first is_fdep_kind units gate ≡ []
  pub spares : gates_after_first is_spare_kind units gate ≡ []

module _ (units : ℕ) (gates : List NumberedGate) (fine : All (IsFine units (kinds gates)) gates) where
  pub no_wrong_votes : wrong_votes gates ≡ []
  no_wrong_votes =
      ap (map (λ (gate : NumberedGate). gate.word))
      (none_passes (λ (gate : NumberedGate). wrong_vote gate.kind (length gate.inputs)) gates
      (λ k d short. (fine k d short).vote))

  pub no_dummies : dummies units gates ≡ []
  no_dummies = none_gives (dummies_in (is_fdep_in units (kinds gates))) gates (λ k d short. (fine k d short).dummies)

  pub none_inputless : inputless units gates ≡ []
  none_inputless =
      ap (map (λ (gate : NumberedGate). gate.word))
      (none_passes (reads_nothing units (kinds gates)) gates (λ k d short. (fine k d short).reads))

  pub no_short_fdeps : short_fdeps gates ≡ []
  no_short_fdeps = ap (map (λ (gate : NumberedGate). gate.word))
      (none_passes is_short_fdep gates (λ k d short. (fine k d short).enough))

  pub no_dependent_gates : dependent_gates units gates ≡ []
  no_dependent_gates = none_gives (gates_after_first is_fdep_kind units) gates
      (λ k d short. (fine k d short).dependents)

  pub no_spare_gates : spare_gates units gates ≡ []
  no_spare_gates = none_gives (gates_after_first is_spare_kind units) gates (λ k d short. (fine k d short).spares)

-- ---- the kinds of groups

-- what holds of the seven kinds holds of each group's
pub seven_kinds : (P : GateKind → Type 0) → P And → P Pand → P (Votes 2 3) → P Seq → P Csp → P Wsp → P Hsp
    → (place : ℕ) → P (slice_index_or made.kinds place And)
seven_kinds P and pand votes seq csp wsp hsp zero = and
seven_kinds P and pand votes seq csp wsp hsp (suc zero) = pand
seven_kinds P and pand votes seq csp wsp hsp (suc (suc zero)) = votes
seven_kinds P and pand votes seq csp wsp hsp (suc (suc (suc zero))) = seq
seven_kinds P and pand votes seq csp wsp hsp (suc (suc (suc (suc zero)))) = csp
seven_kinds P and pand votes seq csp wsp hsp (suc (suc (suc (suc (suc zero))))) = wsp
seven_kinds P and pand votes seq csp wsp hsp (suc (suc (suc (suc (suc (suc zero)))))) = hsp
seven_kinds P and pand votes seq csp wsp hsp (suc (suc (suc (suc (suc (suc (suc place))))))) = and

-- a gate of a group's kind over three units
fine_group : (units : ℕ) (all_kinds : List GateKind) (a b c place : ℕ) → a ≤ units → b ≤ units → c ≤ units
    → IsFine units all_kinds (numbered_by (slice_index_or made.kinds place And) (a ∷ b ∷ c ∷ []))
fine_group units all_kinds a b c place low_a low_b low_c =
    let a_low : ltb units a ≡ false = le-ltb units a low_a in
    let b_low : ltb units b ≡ false = le-ltb units b low_b in
    let c_low : ltb units c ≡ false = le-ltb units c low_c in
    let plain : dummies_in (is_fdep_in units all_kinds) (numbered_by Pand (a ∷ b ∷ c ∷ [])) ≡ [] =
    rw (a_low, b_low, c_low) refl in
    let units_alone : gates_after_first is_spare_kind units (numbered_by Csp (a ∷ b ∷ c ∷ [])) ≡ [] =
    rw (b_low, c_low) refl in
    seven_kinds (λ kind. IsFine units all_kinds (numbered_by kind (a ∷ b ∷ c ∷ [])))
    (record { vote = refl; dummies = refl; reads = rw a_low refl; enough = refl; dependents = refl; spares = refl })
    (record { vote = refl; dummies = plain; reads = refl; enough = refl; dependents = refl; spares = refl })
    (record { vote = refl; dummies = plain; reads = refl; enough = refl; dependents = refl; spares = refl })
    (record { vote = refl; dummies = plain; reads = refl; enough = refl; dependents = refl; spares = refl })
    (record { vote = refl; dummies = plain; reads = refl; enough = refl; dependents = refl; spares = units_alone })
    (record { vote = refl; dummies = plain; reads = refl; enough = refl; dependents = refl; spares = units_alone })
    (record { vote = refl; dummies = plain; reads = refl; enough = refl; dependents = refl; spares = units_alone })
    place

-- a trigger's gate over two units
fine_fdep : (units : ℕ) (all_kinds : List GateKind) (trigger unit : ℕ) → trigger ≤ units → unit ≤ units
    → IsFine units all_kinds (numbered_by Fdep (trigger ∷ unit ∷ []))
fine_fdep units all_kinds trigger unit low_trigger low_unit =
    let trigger_low : ltb units trigger ≡ false = le-ltb units trigger low_trigger in
    let unit_low : ltb units unit ≡ false = le-ltb units unit low_unit in
    record {
      vote = refl;
      dummies = rw (trigger_low, unit_low) refl;
      reads = refl;
      enough = refl;
      dependents = rw unit_low refl;
      spares = refl;
    }

module _ (count fdeps : ℕ) (place : ℕ → ℕ) (some : 1 ≤ count) (fits : (q : ℕ) → q < fdeps → 5 * q < count) where
  abbrev pub kind : ℕ → GateKind
  kind group = slice_index_or made.kinds (place group) And

  abbrev pub deck_gates : List NumberedGate
  deck_gates = made_gates count fdeps kind

  -- the gate of the first group is none of a trigger
  first_kind : (n : ℕ) → 1 ≤ n
      → is_fdep_kind (slice_index_or
      (kinds (top_numbered n fdeps kind ∷ (map (group_numbered n fdeps kind) (range_with_len 0 n) ++ map
      (fdep_numbered count fdeps kind) (range_with_len 0 fdeps)))) 1 Fdep) ≡ false
  first_kind zero more = absurd (omega arith)
  first_kind (suc n) more = seven_kinds (λ kind. is_fdep_kind kind ≡ false) refl refl refl refl refl refl refl (place 0)

  first_is_no_fdep : is_fdep_in (3 * count + 10) (kinds deck_gates) (3 * count + 12 + 0) ≡ false
  first_is_no_fdep =
      let second : 3 * count + 12 + 0 - (3 * count + 10) - 1 ≡ 1 = omega arith in
      ap (λ i. ltb (3 * count + 10) (3 * count + 12 + 0) && is_fdep_kind (slice_index_or (kinds deck_gates) i Fdep))
      second
      ∙ and_right (ltb (3 * count + 10) (3 * count + 12 + 0)) (is_fdep_kind (slice_index_or (kinds deck_gates) 1 Fdep))
      (first_kind count some)

  -- so an input of the top event's gate is left
  reads_some : (n : ℕ) → 1 ≤ n
      → is_empty (filter (λ (input : Numbered). not (is_fdep_in (3 * count + 10) (kinds deck_gates) input.number))
      (map put (map (λ group. 3 * count + 12 + group) (range_with_len 0 n)))) ≡ false
  reads_some zero more = absurd (omega arith)
  reads_some (suc n) more =
      let rest : List Numbered =
      filter (λ (input : Numbered). not (is_fdep_in (3 * count + 10) (kinds deck_gates) input.number))
      (map put (map (λ group. 3 * count + 12 + group) (range_with_len 1 n))) in
      ap (λ b. is_empty (cond (not b) (put (3 * count + 12 + 0) ∷ rest) rest)) first_is_no_fdep

  fine_top : IsFine (3 * count + 10) (kinds deck_gates) (top_numbered count fdeps kind)
  fine_top = record {
    vote = refl;
    dummies = refl;
    reads = reads_some count some;
    enough = refl;
    dependents = refl;
    spares = refl;
  }

  -- no class of faults occurs in the gates
  pub all_fine : All (IsFine (3 * count + 10) (kinds deck_gates)) deck_gates
  all_fine =
      All-cons (IsFine (3 * count + 10) (kinds deck_gates)) (top_numbered count fdeps kind)
      (map (group_numbered count fdeps kind) (range_with_len 0 count) ++ map (fdep_numbered count fdeps kind)
      (range_with_len 0 fdeps))
      fine_top
      (All-append (IsFine (3 * count + 10) (kinds deck_gates))
      (map (group_numbered count fdeps kind) (range_with_len 0 count))
      (map (fdep_numbered count fdeps kind) (range_with_len 0 fdeps))
      (All-range (IsFine (3 * count + 10) (kinds deck_gates)) (group_numbered count fdeps kind) 0 count
      (λ group low high.
      fine_group (3 * count + 10) (kinds deck_gates) (3 * group + 1) (3 * group + 2) (3 * group + 3) (place group)
      (omega arith) (omega arith) (omega arith)))
      (All-range (IsFine (3 * count + 10) (kinds deck_gates)) (fdep_numbered count fdeps kind) 0 fdeps
      (λ q low high.
      let within : 5 * q < count = fits q (omega arith) in
      fine_fdep (3 * count + 10) (kinds deck_gates) (3 * count + 1 + q % 10) (3 * (5 * q) + 2) (omega arith)
      (omega arith))))
