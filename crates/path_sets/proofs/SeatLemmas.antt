-- A seat that is split off, counts on its own, and is joined again.
use Rattle.std.proofs.Common.{[], ◌≡◌, ℕ, ◌+◌, ◌<◌, List, ◌++◌, Contains, length, sym, ◌∙◌, ap, subst, arith}
use Rattle.std.proofs.lemmas.List.{append-nil}
use Rattle.unit_sets.proofs.Sorted.{Contains-nil}
use Rattle.zdd_families.specs.Map.{Grown}
use Rattle.zdd_shared_table.specs.Seats.{Seated, IsSoundSeat, map_of}
use Rattle.zdd_product.specs.Seats.{CountsDue, Joined, WasFull, WentAll, WentOn}
use Rattle.zdd_product.proofs.Several.{CountsDue-went, WentAll-full, WentAll-joined, WentAll-on}
use Rattle.zdd_build.specs.Workers.{CountsAsBefore}

-- what is joined to a seat whose share was parted is joined to the seat as it was before
pub joined_to : {seat parted other after : Seated} {share : ℕ} → parted ≡ record seat { share = share }
    → after.store ≡ parted.store → Grown (map_of parted) (map_of after) → Grown (map_of other) (map_of after)
    → IsSoundSeat after → after.fills ≡ parted.fills ++ other.fills → after.missed ≡ parted.missed ++ other.missed
    → after.fulls ≡ parted.fulls + other.fulls → Joined seat other after
joined_to {seat} {parted} {other} {after} is store keeps gains sound fills missed fulls = record {
  store = store ∙ ap (λ (s : Seated). s.store) is;
  keeps = subst (λ (s : Seated). Grown (map_of s) (map_of after)) is keeps;
  gains = gains;
  sound = sound;
  fills = fills ∙ ap (λ (s : Seated). s.fills ++ other.fills) is;
  missed = missed ∙ ap (λ (s : Seated). s.missed ++ other.missed) is;
  fulls = fulls ∙ ap (λ (s : Seated). s.fulls + other.fulls) is;
}

-- a seat of the store that was split off another one and has counted nothing
pub record IsSplitOff (seat other : Seated) : Type 0 where
  pub store : other.store ≡ seat.store
  pub fulls : other.fulls ≡ 0
  pub missed : other.missed ≡ []
  pub fills : other.fills ≡ []

module _ {seat other : Seated} (split : IsSplitOff seat other) where
  -- nothing was counted, so all of it is due
  counts_none : (due : List (List ℕ) → Type 0) → IsSoundSeat other → CountsDue due other
  counts_none due sound = record {
    sound = sound;
    fills = λ r has. Contains-nil r (subst (λ (l : List ℕ). Contains l r) split.fills has);
    missed = λ word has. Contains-nil word (subst (λ (l : List ℕ). Contains l word) split.missed has);
    fulls = split.fulls ∙ sym (ap (λ (l : List ℕ). length l) split.missed);
  }

  module _ {after : Seated} (sound : IsSoundSeat other) (joined : Joined seat other after) where
    -- it is joined as it was split off
    pub unused_went : (due : List (List ℕ) → Type 0) → WentAll due seat after
    unused_went due = WentAll-joined due (counts_none due sound) joined

    pub unused_counts : CountsAsBefore seat after
    unused_counts = record {
      fulls = let j = joined.fulls in let none = split.fulls in omega (arith, j, none);
      missed =
          joined.missed ∙ ap (λ (l : List ℕ). seat.missed ++ l) split.missed ∙ append-nil seat.missed;
      fills = joined.fills ∙ ap (λ (l : List ℕ). seat.fills ++ l) split.fills ∙ append-nil seat.fills;
    }

  module _ (due : List (List ℕ) → Type 0) (sound : IsSoundSeat other) {end after : Seated}
      (joined : Joined seat end after)
    where
      -- it has gone on before it was joined
      pub used_went : WentOn due other end → WentAll due seat after
      used_went on =
          WentAll-joined due (CountsDue-went due (counts_none due sound) (WentAll-on due on)) joined

      -- or has found the store full
      pub full_went : WasFull due other end → WentAll due seat after
      full_went full =
          WentAll-joined due (CountsDue-went due (counts_none due sound) (WentAll-full due full)) joined

      pub full_counted : WasFull due other end → seat.fulls < after.fulls
      full_counted full =
          let f = full.fulls in let j = joined.fulls in let none = split.fulls in omega (arith, f, j, none)
