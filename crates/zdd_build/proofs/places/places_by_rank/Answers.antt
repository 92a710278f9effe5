use Rattle.std.proofs.{Common.rules, lemmas.List.Sorted.IsNonDecreasingBy-from_sort_by_key}
use Rattle.zdd_build.specs.declared.places.Place.{Place}
use Rattle.zdd_build.proofs.PlaceLemmas.{places_sorted}
use Rattle.zdd_build.proofs.places.places_by_rank.Goals as goal

pub returns : goal.returns
returns c =
    places_sorted c.units.ensures.kept c.sort_by_key.ensures.permutation c.in_ok-places.ensures
    (IsNonDecreasingBy-from_sort_by_key (λ (p : Place). p.rank) c.sort_by_key.new.self.items
    c.in_ok-sort_by_key.ensures.sorted (λ a r q k. search rules))
