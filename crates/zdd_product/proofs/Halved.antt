-- What is known once an operation has cut both its references at their least unit.
use Rattle.std.proofs.Common.{◌≡◌, ◌≢◌, ◌⊎◌, ℕ, ◌<◌, ◌≤◌, List, [], sym, ap, subst}
use Rattle.zdd_families.specs.Map.{Knows, KnowsAs, family, level_in}
use Rattle.zdd_families.proofs.{MapLemmas.level_in-grown, References.IsInnerFamily-reference}
use Rattle.zdd_families.specs.{Cuts.Cuts, Due.IsInnerFamily}
use Rattle.zdd_shared_table.specs.Seats.{Seated, IsSoundSeat, map_of}
use Rattle.zdd_product.specs.{declared.halves.Halves.Halves, Halves.AreHalves, Seats.KnowsBoth, Seats.WentOn}
use Rattle.zdd_product.proofs.Halving.{Cuts-halved, one_split, levels_left, fewer_left, lo_fewer}
use Rattle.zdd_product.proofs.After.{stays, at_both}

-- The seat q after the cut of a and b is the seat s before it, and both families are such that the operation goes on.
pub record Halved (GoOn : List (List ℕ) → List (List ℕ) → Type 0) (q s : Seated) (a b : ℕ) (halves : Halves)
    : Type 0 where
  pub same : q ≡ s
  pub sound : IsSoundSeat s
  pub are : AreHalves (map_of s) a b halves
  pub go_on : GoOn (family (map_of s) a) (family (map_of s) b)

pub halved_by : {GoOn : List (List ℕ) → List (List ℕ) → Type 0} {q s : Seated} {a b : ℕ} {halves : Halves} → q ≡ s
    → IsSoundSeat q → AreHalves (map_of s) a b halves
    → (IsSoundSeat s → GoOn (family (map_of s) a) (family (map_of s) b)) → Halved GoOn q s a b halves
halved_by {s = s} same sound are go_on =
    let sound' : IsSoundSeat s = subst IsSoundSeat same sound in
    record { same = same; sound = sound'; are = are; go_on = go_on sound' }

-- neither family is an end of a product, or of taking out
abbrev pub AreInner : List (List ℕ) → List (List ℕ) → Type 0
AreInner f g = IsInnerFamily f × IsInnerFamily g

pub inner_halved : {q s : Seated} {a b : ℕ} {halves : Halves} → q ≡ s → IsSoundSeat q → AreHalves (map_of s) a b halves
    → Knows (map_of s) a → Knows (map_of s) b → (2 ≤ a) × (2 ≤ b) → Halved AreInner q s a b halves
inner_halved {s = s} {a = a} {b = b} same sound are knows_a knows_b inner =
    halved_by same sound are (λ is. (
      IsInnerFamily-reference (map_of s) a is.closed is.unique knows_a inner.0,
      IsInnerFamily-reference (map_of s) b is.closed is.unique knows_b inner.1,
    ))

module _ {GoOn : List (List ℕ) → List (List ℕ) → Type 0} {q s : Seated} {a b : ℕ} {halves : Halves}
    (cut : Halved GoOn q s a b halves) where
  pub first_cut : Cuts halves.level (family (map_of s) a) (family (map_of s) halves.first.lo)
      (family (map_of s) halves.first.hi)
  first_cut = Cuts-halved cut.are.first.halved

  pub second_cut : Cuts halves.level (family (map_of s) b) (family (map_of s) halves.second.lo)
      (family (map_of s) halves.second.hi)
  second_cut = Cuts-halved cut.are.second.halved

  pub one_cut : (family (map_of s) halves.first.hi ≢ []) ⊎ (family (map_of s) halves.second.hi ≢ [])
  one_cut = one_split cut.are

  pub los_next : (levels_left (map_of q) halves.first.lo halves.second.lo < levels_left (map_of s) a b)
      × KnowsBoth q halves.first.lo halves.second.lo
  los_next =
      let next = lo_fewer (ap map_of cut.same) cut.are in
      (next.0, record { sound = subst IsSoundSeat (sym cut.same) cut.sound; first = next.1.0; second = next.1.1 })

  -- ---- after what was done since

  module _ {due : List (List ℕ) → Type 0} {s1 : Seated} (on : WentOn due s s1) where
    pub still : (r : ℕ) → Knows (map_of s) r → KnowsAs (map_of s1) r (family (map_of s) r)
    still r knows = stays s s1 r cut.sound on.went.sound on.went.keeps knows

    pub still_above : (r : ℕ) → Knows (map_of s) r → halves.level < level_in (map_of s) r
        → halves.level < level_in (map_of s1) r
    still_above r knows above =
        subst (λ n. halves.level < n) (sym (level_in-grown (map_of s) (map_of s1) r on.went.keeps knows)) above

    pub his_next : (levels_left (map_of s1) halves.first.hi halves.second.hi < levels_left (map_of s) a b)
        × KnowsBoth s1 halves.first.hi halves.second.hi
    his_next = (
      fewer_left (map_of s1) halves.first.hi halves.second.hi cut.are
          (still_above halves.first.hi cut.are.first.knows_hi cut.are.first.hi_above)
          (still_above halves.second.hi cut.are.second.knows_hi cut.are.second.hi_above),
      record {
        sound = on.went.sound;
        first = (still halves.first.hi cut.are.first.knows_hi).0;
        second = (still halves.second.hi cut.are.second.knows_hi).0;
      },
    )

    -- facts of both hi stay facts of what they stood for
    pub at_his : (R : List (List ℕ) → List (List ℕ) → Type 0)
        → R (family (map_of s1) halves.first.hi) (family (map_of s1) halves.second.hi)
        → R (family (map_of s) halves.first.hi) (family (map_of s) halves.second.hi)
    at_his R fact =
        at_both R (still halves.first.hi cut.are.first.knows_hi).1
        (still halves.second.hi cut.are.second.knows_hi).1 fact
