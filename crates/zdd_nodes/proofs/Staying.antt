-- What a seat knows of a list of references stays.
use Rattle.std.proofs.Common.{◌≡◌, ℕ, List, [], ◌∷◌, All, get_or, refl, ◌∙◌, ap}
use Rattle.std.proofs.lemmas.List.Elements.{All-head, All-tail}
use Rattle.zdd_families.specs.Map.{Knows, Grown, family}
use Rattle.zdd_shared_table.specs.Seats.{Seated, IsSoundSeat, map_of}
use Rattle.zdd_product.specs.Voting.{families}
use Rattle.zdd_product.proofs.After.{stays}

module _ (before after : Seated) (sound : IsSoundSeat before) (sound' : IsSoundSeat after)
    (keeps : Grown (map_of before) (map_of after)) where
  pub families_stay : (list : List ℕ) → All (Knows (map_of before)) list
      → families (map_of after) list ≡ families (map_of before) list
  families_stay [] knows = refl
  families_stay (r ∷ list) knows =
      ap (λ f. f ∷ families (map_of after) list) (stays before after r sound sound' keeps
      (All-head (Knows (map_of before)) r list knows)).1
      ∙ ap (λ fs. family (map_of before) r ∷ fs) (families_stay list (All-tail (Knows (map_of before)) r list knows))

  pub known_stay : (list : List ℕ) → All (Knows (map_of before)) list → All (Knows (map_of after)) list
  known_stay list knows = λ k d inside. (stays before after (get_or list k d) sound sound' keeps (knows k d inside)).0
