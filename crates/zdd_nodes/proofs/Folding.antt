-- One operation after another over a list of references.
use Rattle.std.proofs.Common.{◌≡◌, ℕ, ◌+◌, ◌<◌, List, [], All, get_or, take, length, sym, ◌∙◌, ap, subst, arith}
use Rattle.std.proofs.lemmas.List.{get_or-map, length-map}
use Rattle.zdd_families.specs.Map.{Knows, KnowsAs, family}
use Rattle.zdd_shared_table.specs.Seats.{Seated, IsSoundSeat, map_of}
use Rattle.zdd_product.specs.{Seats.Gave, Seats.WasFull, Voting.families}
use Rattle.zdd_product.proofs.After.{stays, WentOn-next, WasFull-next}

module _ (IsStep DueStep : List (List ℕ) → List (List ℕ) → List (List ℕ) → Type 0)
    (IsAll DueAll : List (List ℕ) → List (List (List ℕ)) → List (List ℕ) → Type 0)
    (more : (place : ℕ) (first : List (List ℕ)) (others : List (List (List ℕ))) (made next : List (List ℕ))
    → place < length others → IsAll first (take place others) made → IsStep made (get_or others place []) next
    → IsAll first (take (place + 1) others) next)
    (due_next : (place : ℕ) (first : List (List ℕ)) (others : List (List (List ℕ))) (made due : List (List ℕ))
    → place < length others → IsAll first (take place others) made → DueStep made (get_or others place []) due
    → DueAll first others due)
    {start mid : Seated} (list : List ℕ) {first : List (List ℕ)} (sound : IsSoundSeat start)
    (knows : All (Knows (map_of start)) list) (place : ℕ) {made member : ℕ} (short : place < length list)
    (member_is : member ≡ get_or list place 0)
    (so_far : Gave (IsAll first (take place (families (map_of start) list)))
    (DueAll first (families (map_of start) list)) start mid made) where
  abbrev all : List (List (List ℕ))
  all = families (map_of start) list

  abbrev had : List (List ℕ)
  had = family (map_of mid) made

  abbrev next : List (List ℕ)
  next = family (map_of mid) member

  within : place < length all
  within = let e : length all ≡ length list = length-map list (family (map_of start)) in omega (arith, e, short)

  next_stays : KnowsAs (map_of mid) (get_or list place 0) (family (map_of start) (get_or list place 0))
  next_stays =
      stays start mid (get_or list place 0) sound so_far.on.went.sound so_far.on.went.keeps (knows place 0 short)

  next_is : next ≡ get_or all place []
  next_is =
      ap (family (map_of mid)) member_is ∙ next_stays.1 ∙ sym (get_or-map (family (map_of start)) list place 0 [] short)

  step_due : (h : List (List ℕ)) → DueStep had next h → DueAll first all h
  step_due h due =
      due_next place first all had h within so_far.known.1 (subst (λ (q : List (List ℕ)). DueStep had q h) next_is due)

  pub step_on : {after : Seated} {r : ℕ} → Gave (IsStep had next) (DueStep had next) mid after r
      → Gave (IsAll first (take (place + 1) all)) (DueAll first all) start after r
  step_on {after = after} {r} gave = record {
    on = WentOn-next (DueStep had next) after so_far.on step_due gave.on;
    known = (
      gave.known.0,
      more place first all had (family (map_of after) r) within so_far.known.1
          (subst (λ (q : List (List ℕ)). IsStep had q (family (map_of after) r)) next_is gave.known.1),
    );
  }

  pub step_full : {after : Seated} → WasFull (DueStep had next) mid after → WasFull (DueAll first all) start after
  step_full {after = after} full =
      WasFull-next (DueStep had next) after so_far.on step_due full
