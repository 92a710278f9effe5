-- Sets behind some units: those of one size, and what they weigh.
use Rattle.std.proofs.Common.{◌≡◌, ◌≢◌, ℕ, ◌+◌, ◌<◌, List, [], ◌∷◌, ◌++◌, length, refl, sym, ◌∙◌}
use Rattle.std.proofs.Common.{ap, inl, inr, arith, append_assoc, length-append}
use Rattle.std.specs.Prelude.{◌==◌}
use Rattle.std.proofs.lemmas.Bool.{cases_Bool, ne_eqb, eqb-true}
use Rattle.std.proofs.lemmas.List.{append-nil, map-append}
use Rattle.std.proofs.lemmas.List.Elements.{filter-append}
use Rattle.std.proofs.lemmas.List.Sums.{sum_by-append, sum_by-cons}
use Rattle.unit_sets.specs.CutOrder.{weight}
use Rattle.zdd_families.specs.Family.{branch, each_with}
use Rattle.cutset_listing.specs.{BySize.of_size, Visits.behind}

-- ---- sets behind some units

pub behind-append : (front : List ℕ) (f g : List (List ℕ)) → behind front (f ++ g) ≡ behind front f ++ behind front g
behind-append front f g = map-append (λ set. front ++ set) f g

-- a unit more in front, and the sets without it
pub behind-each_with : (front : List ℕ) (x : ℕ) (f : List (List ℕ))
    → behind front (each_with x f) ≡ behind (front ++ x ∷ []) f
behind-each_with front x [] = refl
behind-each_with front x (set ∷ f) =
    ap (λ s. s ∷ behind front (each_with x f)) (sym (append_assoc front (x ∷ []) set))
    ∙ ap (λ sets. ((front ++ x ∷ []) ++ set) ∷ sets) (behind-each_with front x f)

pub behind-nothing : (f : List (List ℕ)) → behind [] f ≡ f
behind-nothing [] = refl
behind-nothing (set ∷ f) = ap (λ sets. set ∷ sets) (behind-nothing f)

pub behind-branch : (front : List ℕ) (x : ℕ) (hi rest : List (List ℕ))
    → behind front (each_with x hi ++ rest) ≡ behind (front ++ x ∷ []) hi ++ behind front rest
behind-branch front x hi rest =
    behind-append front (each_with x hi) rest ∙ ap (λ q. q ++ behind front rest) (behind-each_with front x hi)

-- sets behind units and one unit more are longer than these units
none_so_short : (front : List ℕ) (x : ℕ) {size : ℕ} (f : List (List ℕ)) → length front ≡ size
    → of_size size (behind (front ++ x ∷ []) f) ≡ []
none_so_short front x [] same = refl
none_so_short front x {size} (set ∷ f) same =
    let long : length ((front ++ x ∷ []) ++ set) ≡ (length front + 1) + length set =
    length-append (front ++ x ∷ []) set ∙ ap (λ n. n + length set) (length-append front (x ∷ [])) in
    rw (ne_eqb (length ((front ++ x ∷ []) ++ set)) size (λ e. omega (arith, e, long, same)))
    (none_so_short front x f same)

-- the sets of one size of a branch: those of hi with the unit, and then those of lo
pub of_size-branch : (size : ℕ) (front : List ℕ) (x : ℕ) (lo hi : List (List ℕ)) →
    of_size size (behind front (branch x lo hi)) ≡ of_size size (behind (front ++ x ∷ []) hi)
    ++ of_size size (behind front lo)
of_size-branch size front x [] hi =
    ap (of_size size) (behind-each_with front x hi) ∙ sym (append-nil (of_size size (behind (front ++ x ∷ []) hi)))
of_size-branch size front x ([] ∷ others) hi =
    let A : List (List ℕ) = behind (front ++ x ∷ []) hi in
    let B : List (List ℕ) = behind front others in
    let all : of_size size (behind front (each_with x hi ++ others)) ≡ of_size size A ++ of_size size B =
    ap (of_size size) (behind-branch front x hi others) ∙ filter-append (λ (set : List ℕ). length set == size) A B in
    elim (cases_Bool (length (front ++ []) == size)) [
      | inl so_long ↦
          let none : of_size size A ≡ [] = none_so_short front x hi
          (ap length (sym (append-nil front)) ∙ eqb-true (length (front ++ [])) size so_long) in
          rw so_long (ap (λ q. (front ++ []) ∷ q) (all ∙ ap (λ q. q ++ of_size size B) none)
          ∙ ap (λ q. q ++ (front ++ []) ∷ of_size size B) (sym none))
      | inr other ↦ rw other all
    ]
of_size-branch size front x ((unit ∷ set) ∷ others) hi =
    ap (of_size size) (behind-branch front x hi ((unit ∷ set) ∷ others))
    ∙ filter-append (λ (s : List ℕ). length s == size) (behind (front ++ x ∷ []) hi)
    (behind front ((unit ∷ set) ∷ others))

-- ---- weights

pub weight-append : (f g : List (List ℕ)) → weight (f ++ g) ≡ weight f + weight g
weight-append f g = sum_by-append (λ (set : List ℕ). 1 + length set) f g

pub weight-cons : (set : List ℕ) (f : List (List ℕ)) → weight (set ∷ f) ≡ (1 + length set) + weight f
weight-cons set f = sum_by-cons (λ (s : List ℕ). 1 + length s) set f

pub weight-branch : (front : List ℕ) (x : ℕ) (lo hi : List (List ℕ)) →
    weight (behind front (branch x lo hi)) ≡ weight (behind (front ++ x ∷ []) hi) + weight (behind front lo)
weight-branch front x [] hi =
    let e = ap weight (behind-each_with front x hi) in let n : weight (behind front []) ≡ 0 = refl in
    omega (arith, e, n)
weight-branch front x ([] ∷ others) hi =
    let A : List (List ℕ) = behind (front ++ x ∷ []) hi in
    let B : List (List ℕ) = behind front others in
    let e = weight-cons (front ++ []) (behind front (each_with x hi ++ others)) in
    let e' = weight-cons (front ++ []) B in
    let all = ap weight (behind-branch front x hi others) ∙ weight-append A B in
    omega (arith, e, e', all)
weight-branch front x ((unit ∷ set) ∷ others) hi =
    ap weight (behind-branch front x hi ((unit ∷ set) ∷ others))
    ∙ weight-append (behind (front ++ x ∷ []) hi) (behind front ((unit ∷ set) ∷ others))

-- with one unit more each set weighs one more
weight-each_with : (x : ℕ) (f : List (List ℕ)) → weight (each_with x f) ≡ weight f + length f
weight-each_with x [] = refl
weight-each_with x (set ∷ f) =
    let rest = weight-each_with x f in
    let e = weight-cons set f in
    let e' = weight-cons (x ∷ set) (each_with x f) in
    omega (arith, rest, e, e')

pub weight-parts : (x : ℕ) (lo hi : List (List ℕ)) → weight (branch x lo hi) ≡ weight lo + (weight hi + length hi)
weight-parts x [] hi = let e = weight-each_with x hi in omega (arith, e)
weight-parts x ([] ∷ others) hi =
    let a = weight-cons [] (each_with x hi ++ others) in
    let b = weight-append (each_with x hi) others in
    let d = weight-each_with x hi in
    let e = weight-cons [] others in
    omega (arith, a, b, d, e)
weight-parts x ((unit ∷ set) ∷ others) hi =
    let b = weight-append (each_with x hi) ((unit ∷ set) ∷ others) in
    let d = weight-each_with x hi in
    omega (arith, b, d)

-- both parts of a branch together weigh less than the branch
pub parts_weigh_less : (x : ℕ) (lo : List (List ℕ)) {hi : List (List ℕ)} → hi ≢ []
    → weight lo + weight hi < weight (branch x lo hi)
parts_weigh_less x lo {hi = []} filled = absurd (filled refl)
parts_weigh_less x lo {hi = set ∷ rest} filled = let e = weight-parts x lo (set ∷ rest) in omega (arith, e)
