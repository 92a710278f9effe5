-- What follows from the definitions of `specs/Failing`.
use Rattle.std.specs.Prelude.{◌≡◌, ◌⊎◌, ◌==◌, ℕ, ◌+◌, ◌≤◌, Bool, true, false, ◌&&◌, ◌||◌, List, [], ◌∷◌, Some, None}
use Rattle.std.specs.Prelude.{is_some, filter, nat_le, if◌then◌else◌}
use Rattle.std.specs.List.{list_all, list_any}
use Rattle.std.proofs.Common.{refl, sym, ◌∙◌, ap, subst, inl, inr, arith}
use Rattle.std.proofs.lemmas.Bool.{cases_lt, leb-true, le-leb, eq-eqb, eqb-true, or_left, or_right, or_cases, and_parts}
use Rattle.fault_words.specs.{declared.kind.GateKind.GateKind, declared.kind.GateKind.TheVariants.Votes}
use Rattle.fault_definitions.specs.{Tree.FaultTree, Reading.true_count, WellFormed.IsSoundKind, WellFormed.IsSoundVote}
use Rattle.fault_definitions.specs.Step.{Step, no_later, earlier, later, earliest, latest}
use Rattle.fault_definitions.specs.Step.{never_falls}
use Rattle.fault_definitions.specs.Step.{failed_by, kth_step}
use Rattle.replay_semantics.specs.Failing.{AsksSome, falls_not_after}

pub asks_some : (tree : FaultTree) (kind : GateKind) (inputs : List ℕ) → IsSoundKind tree kind inputs → AsksSome kind
asks_some tree (Votes least of) inputs sound = let vote : IsSoundVote least of inputs = sound in vote.some
asks_some tree _ inputs sound = tt

-- ---- tests

and_true : (a : Bool) → (a && true) ≡ a
and_true true = refl
and_true false = refl

and_false : (a : Bool) → (a && false) ≡ false
and_false true = refl
and_false false = refl

-- two tests of which each gives the other are one
pub same_test : (a b : Bool) → (a ≡ true → b ≡ true) → (b ≡ true → a ≡ true) → a ≡ b
same_test true b to from = sym (to refl)
same_test false true to from = from refl
same_test false false to from = refl

-- ---- what a pass over the inputs computes

later-some : (a b : Step) → is_some (later a b) ≡ (is_some a && is_some b)
later-some None None = refl
later-some None (Some n) = refl
later-some (Some m) None = refl
later-some (Some m) (Some n) = either (nat_le m n)
  where
    either : (test : Bool) → is_some (if test then Some n else Some m) ≡ true
    either true = refl
    either false = refl

pub earlier-some : (a b : Step) → is_some (earlier a b) ≡ (is_some a || is_some b)
earlier-some None None = refl
earlier-some None (Some n) = refl
earlier-some (Some m) None = refl
earlier-some (Some m) (Some n) = either (nat_le m n)
  where
    either : (test : Bool) → is_some (if test then Some m else Some n) ≡ true
    either true = refl
    either false = refl

module _ (f : ℕ → Step) where
  pub latest-some : (nodes : List ℕ) → is_some (latest f nodes) ≡ list_all (λ node. is_some (f node)) nodes
  latest-some [] = refl
  latest-some (node ∷ nodes) =
      later-some (f node) (latest f nodes) ∙ ap (λ b. is_some (f node) && b) (latest-some nodes)

  pub earliest-some : (nodes : List ℕ) → is_some (earliest f nodes) ≡ list_any (λ node. is_some (f node)) nodes
  earliest-some [] = refl
  earliest-some (node ∷ nodes) =
      earlier-some (f node) (earliest f nodes) ∙ ap (λ b. is_some (f node) || b) (earliest-some nodes)

  pub never_falls-after : (node : ℕ) (nodes : List ℕ) → never_falls f (node ∷ nodes) ≡ falls_not_after f (f node) nodes
  never_falls-after node [] = refl
  never_falls-after node (next ∷ nodes) = ap (λ b. no_later (f node) (f next) && b) (never_falls-after next nodes)

  -- ---- K of N: the last of all steps is some node's, and by it all that have a step have failed

  abbrev UpTo : ℕ → List ℕ → Type 0
  UpTo number [] = Unit {0}
  UpTo number (node ∷ nodes) = (is_some (f node) ≡ true → no_later (f node) (Some number) ≡ true) × UpTo number nodes

  by_step : (number other : ℕ) (at : Step) → other ≤ number → (is_some at ≡ true → no_later at (Some other) ≡ true)
      → is_some at ≡ true → no_later at (Some number) ≡ true
  by_step number other None le h some = absurd cc
  by_step number other (Some n) le h some = le-leb n number (omega (arith, leb-true n other (h refl)))

  UpTo-more : (number other : ℕ) (nodes : List ℕ) → other ≤ number → UpTo other nodes → UpTo number nodes
  UpTo-more number other [] le up = tt
  UpTo-more number other (node ∷ nodes) le up =
      (by_step number other (f node) le up.0, UpTo-more number other nodes le up.1)

  some_by : (number : ℕ) (at : Step) → (is_some at ≡ true → no_later at (Some number) ≡ true)
      → is_some at ≡ no_later at (Some number)
  some_by number None h = refl
  some_by number (Some n) h = sym (h refl)

  UpTo-count : (number : ℕ) (nodes : List ℕ) → UpTo number nodes
      → true_count (λ node. is_some (f node)) nodes ≡ failed_by f nodes (Some number)
  UpTo-count number [] up = refl
  UpTo-count number (node ∷ nodes) up =
      let here : is_some (f node) ≡ no_later (f node) (Some number) = some_by number (f node) up.0 in
      let rest = UpTo-count number nodes up.1 in
      cc

  abbrev is_at : ℕ → Step → Bool
  is_at number None = false
  is_at number (Some n) = n == number

  abbrev HasLast : List ℕ → Type 0
  HasLast nodes = (number : ℕ) × UpTo number nodes × (list_any (λ node. is_at number (f node)) nodes ≡ true)

  last_of : (node : ℕ) (nodes : List ℕ) (at : Step) → f node ≡ at
      → ((number : ℕ) → UpTo number nodes) × (true_count (λ n. is_some (f n)) nodes ≡ 0) ⊎ HasLast nodes
      → ((number : ℕ) → UpTo number (node ∷ nodes)) × (true_count (λ n. is_some (f n)) (node ∷ nodes) ≡ 0)
      ⊎ HasLast (node ∷ nodes)
  last_of node nodes None is (inl none) =
      let never_here : is_some (f node) ≡ false = ap is_some is in
      inl (λ number. (λ some. absurd cc, none.0 number), (let e = none.1 in cc))
  last_of node nodes None is (inr found) =
      let never_here : is_some (f node) ≡ false = ap is_some is in
      inr (found.0, (λ some. absurd cc, found.1), or_right (is_at found.0 (f node)) _ found.2)
  last_of node nodes (Some n) is (inl none) =
      inr (
        n,
        (λ some. subst (λ (s : Step). no_later s (Some n) ≡ true) (sym is) (le-leb n n (omega arith)), none.0 n),
        or_left (is_at n (f node)) _ (subst (λ (s : Step). is_at n s ≡ true) (sym is) (eq-eqb n n refl)),
      )
  last_of node nodes (Some n) is (inr found) =
      elim (cases_lt found.0 n) [
        | inl below ↦
            inr (
              n,
              (
                λ some. subst (λ (s : Step). no_later s (Some n) ≡ true) (sym is) (le-leb n n (omega arith)),
                UpTo-more n found.0 nodes (omega (arith, below)) found.1,
              ),
              or_left (is_at n (f node)) _ (subst (λ (s : Step). is_at n s ≡ true) (sym is) (eq-eqb n n refl)),
            )
        | inr reaches ↦
            inr (
              found.0,
              (
                λ some. subst (λ (s : Step). no_later s (Some found.0) ≡ true) (sym is) (le-leb n found.0 reaches),
                found.1,
              ),
              or_right (is_at found.0 (f node)) _ found.2,
            )
      ]

  find_last : (nodes : List ℕ) → ((number : ℕ) → UpTo number nodes) × (true_count (λ n. is_some (f n)) nodes ≡ 0)
      ⊎ HasLast nodes
  find_last [] = inl (λ number. tt, refl)
  find_last (node ∷ nodes) = last_of node nodes (f node) refl (find_last nodes)

  -- the test that picks the nodes of the K-th smallest step
  abbrev counts : ℕ → List ℕ → ℕ → Bool
  counts least nodes node = nat_le least (failed_by f nodes (f node))

  filtered-some : (p : ℕ → Bool) (nodes : List ℕ)
      → is_some (earliest f (filter p nodes)) ≡ list_any (λ node. is_some (f node) && p node) nodes
  filtered-some p [] = refl
  filtered-some p (node ∷ nodes) = first (p node) (filter p nodes) (filtered-some p nodes)
    where
      first : (test : Bool) (kept : List ℕ) → is_some (earliest f kept) ≡ list_any (λ n. is_some (f n) && p n) nodes
          → is_some (earliest f (if test then node ∷ kept else kept))
          ≡ ((is_some (f node) && test) || list_any (λ n. is_some (f n) && p n) nodes)
      first true kept e = earlier-some (f node) (earliest f kept) ∙ (let same = and_true (is_some (f node)) in cc)
      first false kept e = e ∙ (let none = and_false (is_some (f node)) in cc)

  any_weaker : (p q : ℕ → Bool) → ((node : ℕ) → p node ≡ true → q node ≡ true) → (nodes : List ℕ)
      → list_any p nodes ≡ true → list_any q nodes ≡ true
  any_weaker p q more [] h = h
  any_weaker p q more (node ∷ nodes) h =
      elim (or_cases (p node) (list_any p nodes) h) [
        | inl here ↦ or_left (q node) (list_any q nodes) (more node here)
        | inr later ↦ or_right (q node) (list_any q nodes) (any_weaker p q more nodes later)
      ]

  at_last : (least number : ℕ) (nodes : List ℕ) (at : Step) → nat_le least (failed_by f nodes (Some number)) ≡ true
      → is_at number at ≡ true → (is_some at && nat_le least (failed_by f nodes at)) ≡ true
  at_last least number nodes None enough is = absurd cc
  at_last least number nodes (Some n) enough is =
      subst (λ (m : ℕ). nat_le least (failed_by f nodes (Some m)) ≡ true) (sym (eqb-true n number is)) enough

  enough_reach : (least : ℕ) (nodes : List ℕ) → 1 ≤ least → nat_le least (true_count (λ n. is_some (f n)) nodes) ≡ true
      → list_any (λ node. is_some (f node) && counts least nodes node) nodes ≡ true
  enough_reach least nodes some enough =
      elim (find_last nodes) [
        | inl none ↦ absurd (omega (arith, leb-true least _ enough, none.1))
        | inr found ↦
            any_weaker (λ node. is_at found.0 (f node)) (λ node. is_some (f node) && counts least nodes node)
            (λ node at. at_last least found.0 nodes (f node)
            (sym (ap (nat_le least) (UpTo-count found.0 nodes found.1)) ∙ enough) at)
            nodes found.2
      ]

  failed_by-count : (at : Step) (nodes : List ℕ) → is_some at ≡ true
      → failed_by f nodes at ≤ true_count (λ n. is_some (f n)) nodes
  failed_by-count at [] some = omega arith
  failed_by-count None (node ∷ nodes) some = absurd cc
  failed_by-count (Some number) (node ∷ nodes) some = more (f node) (failed_by-count (Some number) nodes refl)
    where
      more : (step : Step) {m n : ℕ} → m ≤ n → (if no_later step (Some number) then 1 else 0) + m
          ≤ (if is_some step then 1 else 0) + n
      more None le = omega (arith, le)
      more (Some n) le = either (nat_le n number) le
        where
          either : (test : Bool) {m k : ℕ} → m ≤ k → (if test then 1 else 0) + m ≤ 1 + k
          either true le = omega (arith, le)
          either false le = omega (arith, le)

  reach_enough : (least : ℕ) (nodes : List ℕ) (others : List ℕ)
      → list_any (λ node. is_some (f node) && counts least nodes node) others ≡ true
      → nat_le least (true_count (λ n. is_some (f n)) nodes) ≡ true
  reach_enough least nodes [] h = absurd cc
  reach_enough least nodes (node ∷ others) h =
      elim (or_cases (is_some (f node) && counts least nodes node)
      (list_any (λ n. is_some (f n) && counts least nodes n) others) h) [
        | inl here ↦
            let parts = and_parts (is_some (f node)) (counts least nodes node) here in
            le-leb least _ (omega (
              arith,
              leb-true least (failed_by f nodes (f node)) parts.1,
              failed_by-count (f node) nodes parts.0,
            ))
        | inr later ↦ reach_enough least nodes others later
      ]

  pub votes-some : (least : ℕ) (nodes : List ℕ) → 1 ≤ least
      → is_some (kth_step least f nodes) ≡ nat_le least (true_count (λ n. is_some (f n)) nodes)
  votes-some least nodes some =
      filtered-some (counts least nodes) nodes
      ∙ same_test (list_any (λ node. is_some (f node) && counts least nodes node) nodes)
      (nat_le least (true_count (λ n. is_some (f n)) nodes))
      (reach_enough least nodes nodes) (enough_reach least nodes some)
