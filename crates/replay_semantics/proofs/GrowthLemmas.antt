-- What follows from the definitions of `specs/Growth`.
use Rattle.std.specs.Prelude.{◌≡◌, ℕ, ◌≤◌, Bool, true, false, List, [], ◌∷◌, Some, None, is_some, nat_le}
use Rattle.std.specs.Prelude.{if◌then◌else◌}
use Rattle.std.proofs.Common.{refl, sym, subst, arith}
use Rattle.std.proofs.lemmas.Bool.{leb-true, leb-false}
use Rattle.fault_definitions.specs.Step.{Step, never, earlier, later, earliest, latest, last_step}
use Rattle.replay_semantics.specs.Growth.{AllGrow, Grows}

-- ---- what a change leaves

pub grows-stays : (last number : ℕ) (before now : Step) → Grows last before now → before ≡ Some number
    → now ≡ Some number
grows-stays last number None None grows is = absurd cc
grows-stays last number None (Some later) grows is = absurd cc
grows-stays last number (Some before) None grows is = absurd grows
grows-stays last number (Some before) (Some now) grows is = let e = grows.0 in cc

pub grows-at_most : (last number : ℕ) (before now : Step) → Grows last before now → now ≡ Some number → number ≤ last
grows-at_most last number None None grows is = absurd cc
grows-at_most last number None (Some now) grows is = let e : now ≡ number = cc in omega (arith, e, grows)
grows-at_most last number (Some before) None grows is = absurd grows
grows-at_most last number (Some before) (Some now) grows is =
    let e : now ≡ number = cc in omega (arith, e, grows.0, grows.1)

pub grows-new : (last : ℕ) (before now : Step) → Grows last before now → before ≡ never → is_some now ≡ true
    → now ≡ Some last
grows-new last None None grows is some = absurd cc
grows-new last None (Some now) grows is some = let e : now ≡ last = grows in cc
grows-new last (Some before) now grows is some = absurd cc

pub grows-never : (last : ℕ) (before now : Step) → Grows last before now → now ≡ never → before ≡ never
grows-never last None now grows is = refl
grows-never last (Some before) None grows is = absurd grows
grows-never last (Some before) (Some now) grows is = absurd cc

pub grows-choice : (last : ℕ) (test : Bool) (a b a' b' : Step) → Grows last a a' → Grows last b b'
    → Grows last (if test then a else b) (if test then a' else b')
grows-choice last true a b a' b' first second = first
grows-choice last false a b a' b' first second = second

pub grows-same : (last number : ℕ) → number ≤ last → Grows last (Some number) (Some number)
grows-same last number below = (refl, below)

-- ---- two steps

module _ (last : ℕ) where
  both_stay : (test : Bool) {m n m' n' : ℕ} → m' ≡ m → n' ≡ n → m ≤ last → n ≤ last
      → Grows last (if test then Some m else Some n) (if test then Some m' else Some n')
  both_stay true e e' h h' = (e, h)
  both_stay false e e' h h' = (e', h')

  one_now : (test : Bool) (m n : ℕ) → (test ≡ true → m ≡ last) → (test ≡ false → n ≡ last)
      → Grows last None (if test then Some m else Some n)
  one_now true m n h h' = h refl
  one_now false m n h h' = h' refl

  one_stays : (test : Bool) (before m n : ℕ) → before ≤ last → (test ≡ true → m ≡ before) → (test ≡ false → n ≡ before)
      → Grows last (Some before) (if test then Some m else Some n)
  one_stays true before m n below h h' = (h refl, below)
  one_stays false before m n below h h' = (h' refl, below)

  same_test : {m n m' n' : ℕ} → m' ≡ m → n' ≡ n → (x y x' y' : Step)
      → Grows last (if nat_le m n then x else y) (if nat_le m n then x' else y')
      → Grows last (if nat_le m n then x else y) (if nat_le m' n' then x' else y')
  same_test {m} {n} {n'} e e' x y x' y' h =
      subst (λ (q : ℕ). Grows last (if nat_le m n then x else y) (if nat_le q n' then x' else y')) (sym e)
      (subst (λ (q : ℕ). Grows last (if nat_le m n then x else y) (if nat_le m q then x' else y')) (sym e') h)

  pub earlier-grows : (a a' b b' : Step) → Grows last a a' → Grows last b b' → Grows last (earlier a b) (earlier a' b')
  earlier-grows None None None None g h = tt
  earlier-grows None None None (Some n') g h = h
  earlier-grows None None (Some n) None g h = absurd h
  earlier-grows None None (Some n) (Some n') g h = h
  earlier-grows None (Some m') None None g h = g
  earlier-grows None (Some m') None (Some n') g h = one_now (nat_le m' n') m' n' (λ _. g) (λ _. h)
  earlier-grows None (Some m') (Some n) None g h = absurd h
  earlier-grows None (Some m') (Some n) (Some n') g h =
      one_stays (nat_le m' n') n m' n' h.1 (λ le. omega (arith, leb-true m' n' le, g, h.0, h.1)) (λ _. h.0)
  earlier-grows (Some m) None b b' g h = absurd g
  earlier-grows (Some m) (Some m') None None g h = g
  earlier-grows (Some m) (Some m') None (Some n') g h =
      one_stays (nat_le m' n') m m' n' g.1 (λ _. g.0) (λ gt. absurd (omega (arith, leb-false m' n' gt, g.0, g.1, h)))
  earlier-grows (Some m) (Some m') (Some n) None g h = absurd h
  earlier-grows (Some m) (Some m') (Some n) (Some n') g h =
      same_test g.0 h.0 (Some m) (Some n) (Some m') (Some n') (both_stay (nat_le m n) g.0 h.0 g.1 h.1)

  pub later-grows : (a a' b b' : Step) → Grows last a a' → Grows last b b' → Grows last (later a b) (later a' b')
  later-grows None None None None g h = tt
  later-grows None None None (Some n') g h = tt
  later-grows None None (Some n) None g h = absurd h
  later-grows None None (Some n) (Some n') g h = tt
  later-grows None (Some m') None None g h = tt
  later-grows None (Some m') None (Some n') g h = one_now (nat_le m' n') n' m' (λ _. h) (λ _. g)
  later-grows None (Some m') (Some n) None g h = absurd h
  later-grows None (Some m') (Some n) (Some n') g h =
      one_now (nat_le m' n') n' m' (λ le. omega (arith, leb-true m' n' le, g, h.0, h.1)) (λ _. g)
  later-grows (Some m) None b b' g h = absurd g
  later-grows (Some m) (Some m') None None g h = tt
  later-grows (Some m) (Some m') None (Some n') g h =
      one_now (nat_le m' n') n' m' (λ _. h) (λ gt. absurd (omega (arith, leb-false m' n' gt, g.0, g.1, h)))
  later-grows (Some m) (Some m') (Some n) None g h = absurd h
  later-grows (Some m) (Some m') (Some n) (Some n') g h =
      same_test g.0 h.0 (Some n) (Some m) (Some n') (Some m') (both_stay (nat_le m n) h.0 g.0 h.1 g.1)

-- ---- the steps of several nodes

module _ {last : ℕ} {f g : ℕ → Step} (grow : AllGrow last f g) where
  pub earliest-grows : (nodes : List ℕ) → Grows last (earliest f nodes) (earliest g nodes)
  earliest-grows [] = tt
  earliest-grows (node ∷ nodes) =
      earlier-grows last (f node) (g node) (earliest f nodes) (earliest g nodes) (grow.each node) (earliest-grows nodes)

  pub latest-grows : (nodes : List ℕ) → Grows last (latest f nodes) (latest g nodes)
  latest-grows [] = grows-same last 0 (omega arith)
  latest-grows (node ∷ nodes) =
      later-grows last (f node) (g node) (latest f nodes) (latest g nodes) (grow.each node) (latest-grows nodes)

  pub last_step-grows : (nodes : List ℕ) → Grows last (last_step f nodes) (last_step g nodes)
  last_step-grows [] = tt
  last_step-grows (node ∷ []) = grow.each node
  last_step-grows (node ∷ next ∷ nodes) = last_step-grows (next ∷ nodes)
