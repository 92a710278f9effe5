-- Workers that join their seat.
use Rattle.std.proofs.Common.{◌≡◌, ℕ, ◌+◌, ◌-◌, ◌<◌, ◌≤◌, true, List, [], ◌∷◌, ◌++◌, All, length, take, drop}
use Rattle.std.proofs.Common.{refl, sym, ◌∙◌, ap, subst, arith}
use Rattle.std.proofs.lemmas.List.{append-nil, drop_all, take_all, get_or_append_left, get_or_push, length_push}
use Rattle.zdd_families.specs.Map.{Grown}
use Rattle.zdd_shared_table.specs.Seats.{IsSoundSeat, Seated, map_of}
use Rattle.zdd_product.specs.Seats.{CountsDue, Joined, WentAll}
use Rattle.zdd_product.proofs.{Several.WentAll-joined, Several.WentAll-then, After.grown_then}
use Rattle.zdd_build.specs.{declared.task.Task.Task, declared.worker.Worker.Worker}
use Rattle.zdd_build.proofs.SeatLemmas.{counts_then}
use Rattle.zdd_build.specs.Workers.{CanWork, CountsAsBefore, FindsFull, HasLed, HasSplit, Learned}

-- the first of a list is the first of what stands before its last, or is the last
pub first_or_last : (workers : List Worker) (last : Worker) {G : Type 0} → FindsFull (workers ++ last ∷ [])
    → (FindsFull workers → G) → (last.full ≡ true → G) → G
first_or_last [] last finds first alone = alone finds
first_or_last (worker ∷ workers) last finds first alone = first finds

-- ---- a worker's seat is joined, and then those of the others

module _ {before other mid : Seated} (after : Seated) (joined : Joined before other mid) where
  pub close_went : {due : List (List ℕ) → Type 0} → CountsDue due other → WentAll due mid after
      → WentAll due before after
  close_went {due} counts later = WentAll-then due (WentAll-joined due counts joined) later

  pub close_new : other.fulls ≡ 0 → other.missed ≡ [] → other.fills ≡ [] → CountsAsBefore mid after
      → CountsAsBefore before after
  close_new fulls missed fills later = record {
    fulls = later.fulls ∙ (let j = joined.fulls in omega (arith, j, fulls));
    missed = later.missed ∙ joined.missed ∙ ap (λ l. before.missed ++ l) missed ∙ append-nil before.missed;
    fills = later.fills ∙ joined.fills ∙ ap (λ l. before.fills ++ l) fills ∙ append-nil before.fills;
  }

  -- the first worker that found the store full has counted it
  pub close_full : {task : Task} {due : List (List ℕ) → Type 0} (rest : List Worker)
      {worker : Worker} → worker.ops ≡ other → CanWork task worker → WentAll due mid after
      → (FindsFull rest → mid.fulls < after.fulls) → FindsFull (rest ++ worker ∷ []) → before.fulls < after.fulls
  close_full rest {worker} same can later first finds =
      first_or_last rest worker finds
      (λ f. let more = first f in let j = joined.fulls in omega (arith, more, j))
      (λ full. let one : 1 ≤ other.fulls = subst (λ (s : Seated). 1 ≤ s.fulls) same (can.full full) in
      let j = joined.fulls in let l = later.fulls in omega (arith, one, j, l))

-- the last of some workers, and those before it
pub last_is : (P : Worker → Type 0) {workers : List Worker} (rest : List Worker) (last : Worker)
    → workers ≡ rest ++ last ∷ []
    → All P workers → P last
last_is P rest last e all =
    subst P (get_or_push rest last last (length rest) refl)
    (subst (All P) e all (length rest) last (omega (arith, length_push rest last)))

pub others_are : (P : Worker → Type 0) {workers : List Worker} (rest : List Worker) (last : Worker)
    → workers ≡ rest ++ last ∷ []
    → All P workers → All P rest
others_are P rest last e all k d within =
    subst P (get_or_append_left rest (last ∷ []) d k within)
    (subst (All P) e all k d (omega (arith, within, length_push rest last)))

-- one worker more is split off
pub split_then : {count : ℕ} {a b c : Seated} → HasSplit count a b → HasSplit 1 b c → HasSplit (count + 1) a c
split_then {a} {b} {c} first second = record {
  store = second.store ∙ first.store;
  keeps = grown_then (map_of a) (map_of b) (map_of c) first.keeps second.keeps;
  sound = second.sound;
  counts = counts_then first.counts second.counts;
  share = let f = first.share in let s = second.share in omega (arith, f, s);
}

pub joined_is : {b other c : Seated} → c.store ≡ b.store → Grown (map_of b) (map_of c)
    → Grown (map_of other) (map_of c) → IsSoundSeat c → c.fills ≡ b.fills ++ other.fills
    → c.missed ≡ b.missed ++ other.missed → c.fulls ≡ b.fulls + other.fulls → Joined b other c
joined_is store keeps gains sound fills missed fulls = record {
  store = store;
  keeps = keeps;
  gains = gains;
  sound = sound;
  fills = fills;
  missed = missed;
  fulls = fulls;
}

-- a seat takes in another that has counted nothing, and is left with the share of a third seat
module _ (a : Seated) {b part c : Seated} (d : Seated) (count : ℕ) (fulls : (part.fulls ≡ 0) × (part.missed ≡ []))
    (fills : part.fills ≡ [])
    (joined : Joined b part c) where
  nothing_counted : CountsAsBefore b c
  nothing_counted = record {
    fulls = let j = joined.fulls in let none = fulls.0 in omega (arith, j, none);
    missed = joined.missed ∙ ap (λ l. b.missed ++ l) fulls.1 ∙ append-nil b.missed;
    fills = joined.fills ∙ ap (λ l. b.fills ++ l) fills ∙ append-nil b.fills;
  }

  -- it was split off before
  pub split_join : b ≡ record a { share = a.share - count } → count ≤ a.share → c.share ≡ b.share + part.share
      → part.share ≡ count → Learned a c
  split_join is fits share same = record {
    store = joined.store ∙ ap (λ s. s.store) is;
    share = omega (arith, share, same, fits, ap (λ s. s.share) is);
    keeps = subst (λ (s : Seated). Grown (map_of s) (map_of c)) is joined.keeps;
    sound = joined.sound;
    counts =
        record {
          fulls = nothing_counted.fulls ∙ ap (λ s. s.fulls) is;
          missed = nothing_counted.missed ∙ ap (λ s. s.missed) is;
          fills = nothing_counted.fills ∙ ap (λ s. s.fills) is;
        };
  }

  -- as large a share is split off afterwards
  pub join_split : d ≡ record c { share = c.share - count } → IsSoundSeat d → c.share ≡ b.share + part.share
      → part.share ≡ count → Learned b d
  join_split is sound share same = record {
    store = ap (λ s. s.store) is ∙ joined.store;
    share = omega (arith, share, same, ap (λ s. s.share) is);
    keeps = subst (λ (s : Seated). Grown (map_of b) (map_of s)) (sym is) joined.keeps;
    sound = sound;
    counts =
        record {
          fulls = ap (λ s. s.fulls) is ∙ nothing_counted.fulls;
          missed = ap (λ s. s.missed) is ∙ nothing_counted.missed;
          fills = ap (λ s. s.fills) is ∙ nothing_counted.fills;
        };
  }

-- a share is back, with nothing done
pub split_none : {before after : Seated} → Learned before after → HasSplit 0 before after
split_none learned = record {
  store = learned.store;
  keeps = learned.keeps;
  sound = learned.sound;
  counts = learned.counts;
  share = let s = learned.share in omega (arith, s);
}

-- ---- a slice of all workers, written over

abbrev pub written : List Worker → List Worker → ℕ → List Worker
written new old count = take count (new ++ drop (length new) old)

pub written_is : (new old : List Worker) (count : ℕ) → length new ≡ length old → count ≡ length old
    → written new old count ≡ new
written_is new old count same all =
    ap (λ (rest : List Worker). take count (new ++ rest)) (drop_all (length new) old (omega (arith, same)))
    ∙ ap (take count) (append-nil new) ∙ take_all count new (omega (arith, same, all))

pub led_back : {task : Task} {seat : Seated} {old : List Worker} (count : ℕ) {seat' : Seated} {new : List Worker}
    → count ≡ length old → HasLed task seat old seat' new → HasLed task seat old seat' (written new old count)
led_back {task} {seat} {old} count {seat'} {new} all led =
    subst (HasLed task seat old seat') (sym (written_is new old count led.size all)) led
