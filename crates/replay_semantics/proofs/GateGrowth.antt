-- How the step of a gate may change as one unit more fails, kind by kind: it stays, or the gate fails at the last
-- place.
use Rattle.std.specs.Prelude.{◌≡◌, ℕ, ◌+◌, ◌≤◌, ◌<◌, Bool, true, false, List, [], ◌∷◌, Some, None, filter, nat_le}
use Rattle.std.specs.Prelude.{if◌then◌else◌, All}
use Rattle.std.specs.List.{list_all}
use Rattle.std.proofs.Common.{refl, sym, ◌∙◌, ap, subst, inl, inr, arith}
use Rattle.std.proofs.lemmas.Bool.{cond_both, cases_lt, leb-true, le-leb, lt-leb, and_parts}
use Rattle.std.proofs.lemmas.List.Elements.{All-nil, All-cons, All-head, All-weaker}
use Rattle.fault_words.specs.declared.kind.GateKind.{GateKind}
use Rattle.fault_words.specs.declared.kind.GateKind.TheVariants.{And, Or, Votes, Pand, Por, Seq, Fdep, Csp, Wsp, Hsp}
use Rattle.fault_definitions.specs.Step.{Step, never, no_later, earlier, earliest, last_step, never_falls, failed_by}
use Rattle.fault_definitions.specs.Step.{kth_step, first_step, gate_step}
use Rattle.fault_definitions.proofs.{StepLaws.never_falls-agree, ReadingLaws.list_all-agree}
use Rattle.replay_semantics.specs.Growth.{Grows, AllGrow}
use Rattle.replay_semantics.proofs.GrowthLemmas.{grows-same, earliest-grows, latest-grows, last_step-grows}

-- ---- K of N: each node counts where K have failed by its step

abbrev counting : Bool → Step → Step
counting test step = if test then step else never

earliest_counting : (f : ℕ → Step) (p : ℕ → Bool) (nodes : List ℕ)
    → earliest f (filter p nodes) ≡ earliest (λ node. counting (p node) (f node)) nodes
earliest_counting f p [] = refl
earliest_counting f p (node ∷ nodes) =
    let rest = earliest_counting f p nodes in
    first (p node) (filter p nodes) (earliest (λ n. counting (p n) (f n)) nodes) rest
  where
    none_first : (step : Step) → step ≡ earlier never step
    none_first None = refl
    none_first (Some n) = refl

    first : (test : Bool) (kept : List ℕ) (others : Step) → earliest f kept ≡ others
        → earliest f (if test then node ∷ kept else kept) ≡ earlier (counting test (f node)) others
    first true kept others e = ap (earlier (f node)) e
    first false kept others e = e ∙ none_first others

module _ {last : ℕ} {f g : ℕ → Step} (grow : AllGrow last f g) where
  by_same : (number : ℕ) (a b : Step) → Grows last a b → number < last
      → no_later a (Some number) ≡ no_later b (Some number)
  by_same number None None h below = refl
  by_same number None (Some now) h below = sym (lt-leb now number (omega (arith, h)))
  by_same number (Some before) None h below = absurd h
  by_same number (Some before) (Some now) h below = ap (λ n. nat_le n number) (sym h.0)

  failed_by-same : (number : ℕ) (nodes : List ℕ) → number < last
      → failed_by f nodes (Some number) ≡ failed_by g nodes (Some number)
  failed_by-same number [] below = refl
  failed_by-same number (node ∷ nodes) below =
      let here = by_same number (f node) (g node) (grow.each node) below in
      let rest = failed_by-same number nodes below in
      cc

  by_more : (number : ℕ) (a b : Step) → Grows last a b → no_later a (Some number) ≡ true
      → no_later b (Some number) ≡ true
  by_more number None b h by = absurd cc
  by_more number (Some before) None h by = absurd h
  by_more number (Some before) (Some now) h by = ap (λ n. nat_le n number) h.0 ∙ by

  failed_by-more : (number : ℕ) (nodes : List ℕ) → failed_by f nodes (Some number) ≤ failed_by g nodes (Some number)
  failed_by-more number [] = omega arith
  failed_by-more number (node ∷ nodes) =
      counted (no_later (f node) (Some number)) (no_later (g node) (Some number)) _ _
      (by_more number (f node) (g node) (grow.each node)) (failed_by-more number nodes)
    where
      counted : (a b : Bool) (m n : ℕ) → (a ≡ true → b ≡ true) → m ≤ n
          → (if a then 1 else 0) + m ≤ (if b then 1 else 0) + n
      counted true true m n h le = omega arith
      counted true false m n h le = let e = h refl in absurd cc
      counted false true m n h le = omega arith
      counted false false m n h le = omega arith

  none_counting : (test : Bool) (P : Step → Type 0) → P None → P (counting test None)
  none_counting true P h = h
  none_counting false P h = h

  counting_some : (test test' : Bool) (number : ℕ) → number ≤ last → (test ≡ true → test' ≡ true)
      → (number < last → test ≡ test') → Grows last (counting test (Some number)) (counting test' (Some number))
  counting_some true true number below more same = (refl, below)
  counting_some true false number below more same = let e = more refl in absurd cc
  counting_some false false number below more same = tt
  counting_some false true number below more same =
      elim (cases_lt number last) [
        | inl less ↦ let e = same less in absurd cc
        | inr at_last ↦ omega arith
      ]

  counting-grows : (least : ℕ) (nodes : List ℕ) (a b : Step) → Grows last a b
      → Grows last (counting (nat_le least (failed_by f nodes a)) a) (counting (nat_le least (failed_by g nodes b)) b)
  counting-grows least nodes None None h =
      none_counting _ (λ s. Grows last s (counting (nat_le least (failed_by g nodes None)) None))
      (none_counting _ (λ s. Grows last None s) tt)
  counting-grows least nodes None (Some now) h =
      none_counting _ (λ s. Grows last s (counting (nat_le least (failed_by g nodes (Some now))) (Some now)))
      (cond_both (nat_le least (failed_by g nodes (Some now))) (Some now) never (λ s. Grows last None s) (λ _. h)
      (λ _. tt))
  counting-grows least nodes (Some before) None h = absurd h
  counting-grows least nodes (Some before) (Some now) h =
      subst (λ (n : ℕ). Grows last (counting (nat_le least (failed_by f nodes (Some before))) (Some before))
      (counting (nat_le least (failed_by g nodes (Some n))) (Some n))) (sym h.0)
      (counting_some _ _ before h.1
      (λ enough. le-leb least (failed_by g nodes (Some before))
      (omega (arith, leb-true least (failed_by f nodes (Some before)) enough, failed_by-more before nodes)))
      (λ below. ap (nat_le least) (failed_by-same before nodes below)))

  kth_step-grows : (least : ℕ) (nodes : List ℕ) → Grows last (kth_step least f nodes) (kth_step least g nodes)
  kth_step-grows least nodes =
      let p : ℕ → Bool = λ node. nat_le least (failed_by f nodes (f node)) in
      let q : ℕ → Bool = λ node. nat_le least (failed_by g nodes (g node)) in
      let counts : AllGrow last (λ node. counting (p node) (f node)) (λ node. counting (q node) (g node)) = record {
        each = λ node. counting-grows least nodes (f node) (g node) (grow.each node);
      } in
      subst (λ (s : Step). Grows last s (kth_step least g nodes)) (sym (earliest_counting f p nodes))
      (subst (λ (s : Step). Grows last (earliest (λ node. counting (p node) (f node)) nodes) s)
      (sym (earliest_counting g q nodes)) (earliest-grows counts nodes))

-- ---- priority gates

-- where the steps fall nowhere, all come no later than the last one
no_later_trans : (a b : Step) (number : ℕ) → no_later a b ≡ true → no_later b (Some number) ≡ true
    → no_later a (Some number) ≡ true
no_later_trans a None number h k = absurd cc
no_later_trans None (Some n) number h k = absurd cc
no_later_trans (Some m) (Some n) number h k = le-leb m number (omega (arith, leb-true m n h, leb-true n number k))

no_later_itself : (number : ℕ) → nat_le number number ≡ true
no_later_itself number = le-leb number number (omega arith)

up_to_last : (f : ℕ → Step) (number : ℕ) (nodes : List ℕ) → never_falls f nodes ≡ true → last_step f nodes ≡ Some number
    → All (λ node. no_later (f node) (Some number) ≡ true) nodes
up_to_last f number [] up is = All-nil _
up_to_last f number (node ∷ []) up is =
    All-cons (λ n. no_later (f n) (Some number) ≡ true) node []
    (subst (λ (s : Step). no_later s (Some number) ≡ true) (sym is) (no_later_itself number)) (All-nil _)
up_to_last f number (node ∷ next ∷ nodes) up is =
    let parts = and_parts (no_later (f node) (f next)) (never_falls f (next ∷ nodes)) up in
    let rest : All (λ n. no_later (f n) (Some number) ≡ true) (next ∷ nodes) =
    up_to_last f number (next ∷ nodes) parts.1 is in
    let second : no_later (f next) (Some number) ≡ true =
    All-head (λ n. no_later (f n) (Some number) ≡ true) next nodes rest in
    All-cons (λ n. no_later (f n) (Some number) ≡ true) node (next ∷ nodes)
    (no_later_trans (f node) (f next) number parts.0 second) rest

module _ {last : ℕ} {f g : ℕ → Step} (grow : AllGrow last f g) where
  stays_by : (number : ℕ) (a b : Step) → Grows last a b → no_later a (Some number) ≡ true → a ≡ b
  stays_by number None b h by = absurd cc
  stays_by number (Some before) None h by = absurd h
  stays_by number (Some before) (Some now) h by = ap Some (sym h.0)

  was_by : (number : ℕ) (a b : Step) → Grows last a b → number < last → no_later b (Some number) ≡ true → a ≡ b
  was_by number None None h below by = refl
  was_by number None (Some now) h below by = absurd (omega (arith, leb-true now number by, h))
  was_by number (Some before) None h below by = absurd h
  was_by number (Some before) (Some now) h below by = ap Some (sym h.0)

  falls_as : (number : ℕ) (nodes : List ℕ) → never_falls f nodes ≡ true → last_step f nodes ≡ Some number
      → never_falls g nodes ≡ true
  falls_as number nodes up is =
      sym (never_falls-agree f g nodes
      (All-weaker (λ n. no_later (f n) (Some number) ≡ true) (λ n. f n ≡ g n)
      (λ n by. stays_by number (f n) (g n) (grow.each n) by) nodes (up_to_last f number nodes up is)))
      ∙ up

  fell_as : (number : ℕ) (nodes : List ℕ) → number < last → never_falls g nodes ≡ true → last_step g nodes ≡ Some number
      → never_falls f nodes ≡ true
  fell_as number nodes below up is =
      never_falls-agree f g nodes
      (All-weaker (λ n. no_later (g n) (Some number) ≡ true) (λ n. f n ≡ g n)
      (λ n by. was_by number (f n) (g n) (grow.each n) below by) nodes (up_to_last g number nodes up is))
      ∙ up

  pand_choice : (up up' : Bool) (a b : Step) → Grows last a b → ((n : ℕ) → up ≡ true → a ≡ Some n → up' ≡ true)
      → ((n : ℕ) → n < last → up' ≡ true → b ≡ Some n → up ≡ true)
      → Grows last (if up then a else never) (if up' then b else never)
  pand_choice true true a b h to from = h
  pand_choice false false a b h to from = tt
  pand_choice true false None b h to from = tt
  pand_choice true false (Some n) b h to from = let e = to n refl refl in absurd cc
  pand_choice false true a None h to from = tt
  pand_choice false true None (Some n) h to from = h
  pand_choice false true (Some m) (Some n) h to from =
      elim (cases_lt n last) [
        | inl below ↦ let e = from n below refl refl in absurd cc
        | inr at_last ↦ omega (arith, h.0, h.1)
      ]

  pand-grows : (nodes : List ℕ) → Grows last (if never_falls f nodes then last_step f nodes else never)
      (if never_falls g nodes then last_step g nodes else never)
  pand-grows nodes =
      pand_choice (never_falls f nodes) (never_falls g nodes) (last_step f nodes) (last_step g nodes)
      (last_step-grows grow nodes) (λ n up is. falls_as n nodes up is) (λ n below up is. fell_as n nodes below up is)

  beside_same : (number : ℕ) (a b : Step) → number ≤ last → Grows last a b
      → no_later (Some number) a ≡ no_later (Some number) b
  beside_same number None None below h = refl
  beside_same number None (Some now) below h = sym (le-leb number now (omega (arith, h)))
  beside_same number (Some before) None below h = absurd h
  beside_same number (Some before) (Some now) below h = ap (nat_le number) (sym h.0)

  por_choice : (first : ℕ) (others : List ℕ) (a b : Step) → Grows last a b
      → Grows last (if list_all (λ other. no_later a (f other)) others then a else never)
      (if list_all (λ other. no_later b (g other)) others then b else never)
  por_choice first others None None h =
      cond_both (list_all (λ other. no_later None (f other)) others) None never
      (λ s. Grows last s (if list_all (λ other. no_later None (g other)) others then None else never))
      (λ _. cond_both (list_all (λ other. no_later None (g other)) others) None never (λ s. Grows last None s) (λ _. tt)
      (λ _. tt))
      (λ _. cond_both (list_all (λ other. no_later None (g other)) others) None never (λ s. Grows last None s) (λ _. tt)
      (λ _. tt))
  por_choice first others None (Some now) h =
      cond_both (list_all (λ other. no_later None (f other)) others) None never
      (λ s. Grows last s (if list_all (λ other. no_later (Some now) (g other)) others then Some now else never))
      (λ _. cond_both (list_all (λ other. no_later (Some now) (g other)) others) (Some now) never
      (λ s. Grows last None s) (λ _. h) (λ _. tt))
      (λ _. cond_both (list_all (λ other. no_later (Some now) (g other)) others) (Some now) never
      (λ s. Grows last None s) (λ _. h) (λ _. tt))
  por_choice first others (Some before) None h = absurd h
  por_choice first others (Some before) (Some now) h =
      let alike : list_all (λ other. no_later (Some before) (f other)) others
      ≡ list_all (λ other. no_later (Some before) (g other)) others =
      list_all-agree (λ other. no_later (Some before) (f other)) (λ other. no_later (Some before) (g other)) others
      (λ k d short. beside_same before _ _ h.1 (grow.each _)) in
      subst (λ (n : ℕ). Grows last (if list_all (λ other. no_later (Some before) (f other)) others then Some before
      else never) (if list_all (λ other. no_later (Some n) (g other)) others then Some n else never)) (sym h.0)
      (subst (λ (t : Bool). Grows last (if list_all (λ other. no_later (Some before) (f other)) others then Some before
      else never) (if t then Some before else never)) alike
      (cond_both (list_all (λ other. no_later (Some before) (f other)) others) (Some before) never (λ s. Grows last s s)
      (λ _. grows-same last before h.1) (λ _. tt)))

  por-grows : (nodes : List ℕ) → Grows last (first_step f nodes) (first_step g nodes)
  por-grows [] = tt
  por-grows (node ∷ nodes) = por_choice node nodes (f node) (g node) (grow.each node)

  pub gate_step-grows : (kind : GateKind) (nodes : List ℕ)
      → Grows last (gate_step kind f nodes) (gate_step kind g nodes)
  gate_step-grows And nodes = latest-grows grow nodes
  gate_step-grows Or nodes = earliest-grows grow nodes
  gate_step-grows (Votes least of) nodes = kth_step-grows grow least nodes
  gate_step-grows Pand nodes = pand-grows nodes
  gate_step-grows Por nodes = por-grows nodes
  gate_step-grows Seq nodes = latest-grows grow nodes
  gate_step-grows Fdep nodes = tt
  gate_step-grows Csp nodes = latest-grows grow nodes
  gate_step-grows Wsp nodes = latest-grows grow nodes
  gate_step-grows Hsp nodes = latest-grows grow nodes
