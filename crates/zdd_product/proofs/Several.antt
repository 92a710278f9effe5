-- Several searches on one seat, and seats of several workers that are joined: for the proofs of the crates above.
use Rattle.std.proofs.Common.{◌≡◌, ℕ, ◌+◌, List, [], ◌∷◌, ◌++◌, length, Contains, refl, sym, ◌∙◌, ap, subst, inl, inr}
use Rattle.std.proofs.Common.{append_assoc, add-zero, arith}
use Rattle.std.proofs.lemmas.List.{append-nil, length-append}
use Rattle.std.proofs.lemmas.List.Elements.{Contains-append_cases, Contains-append_right}
use Rattle.unit_sets.proofs.Sorted.{Contains-nil}
use Rattle.zdd_words.specs.Word.{level_of, lo_of, hi_of}
use Rattle.zdd_families.specs.Family.{branch}
use Rattle.zdd_families.specs.Map.{Grown, IsNode, family}
use Rattle.zdd_families.proofs.{MapLemmas.lo_known, MapLemmas.hi_known, Canonical.family-grown}
use Rattle.zdd_shared_table.specs.Seats.{Seated, IsSoundSeat, map_of}
use Rattle.zdd_product.specs.Seats.{word_family, WentOn, WasFull, WentAll, CountsDue, Joined}
use Rattle.zdd_product.proofs.After.{grown_then, only_one, stays}

-- the family of a word that the seat knows stays
pub word_stays : (before after : Seated) {word : ℕ} → IsSoundSeat before → IsSoundSeat after
    → Grown (map_of before) (map_of after) → IsNode (map_of before) word
    → word_family (map_of after) word ≡ word_family (map_of before) word
word_stays before after {word} sound sound' keeps node =
    let lo = (stays before after (lo_of word) sound sound' keeps (lo_known node)).1 in
    let hi = (stays before after (hi_of word) sound sound' keeps (hi_known node)).1 in
    (λ i. branch (level_of word) (lo i) (hi i))

module _ (due : List (List ℕ) → Type 0) where
  pub WentAll-nowhere : {seat : Seated} → IsSoundSeat seat → WentAll due seat seat
  WentAll-nowhere {seat} sound = record {
    store = refl;
    keeps = λ r has. refl;
    sound = sound;
    fills = record { gained = []; fills = sym (append-nil seat.fills); each = λ r none. Contains-nil r none };
    missed = record { gained = []; missed = sym (append-nil seat.missed); each = λ word none. Contains-nil word none };
    fulls = sym (add-zero seat.fulls);
  }

  pub WentAll-on : {before after : Seated} → WentOn due before after → WentAll due before after
  WentAll-on {before} on = record {
    store = on.went.store;
    keeps = on.went.keeps;
    sound = on.went.sound;
    fills = on.went.fills;
    missed =
        record {
          gained = [];
          missed = on.missed ∙ sym (append-nil before.missed);
          each = λ word none. Contains-nil word none;
        };
    fulls = on.fulls ∙ sym (add-zero before.fulls);
  }

  pub WentAll-full : {before after : Seated} → WasFull due before after → WentAll due before after
  WentAll-full {after} full = record {
    store = full.went.store;
    keeps = full.went.keeps;
    sound = full.went.sound;
    fills = full.went.fills;
    missed = record {
      gained = full.missed.word ∷ [];
      missed = full.missed.missed;
      each =
          λ word has. subst (λ w. due (word_family (map_of after) w)) (only_one full.missed.word word has)
          full.missed.is;
    };
    fulls = full.fulls;
  }

  -- ---- one after another

  module _ {a b c : Seated} (first : WentAll due a b) (later : WentAll due b c) where
    earlier_fill : (r : ℕ) → Contains first.fills.gained r → due (family (map_of c) r)
    earlier_fill r has =
        let filled : Contains b.fills r =
        subst (λ l. Contains l r) (sym first.fills.fills)
        (Contains-append_right a.fills first.fills.gained r has) in
        subst due
        (sym (family-grown (map_of b) (map_of c) r first.sound.closed later.sound.closed later.keeps
        (inr (first.sound.fills r filled))))
        (first.fills.each r has)

    earlier_miss : (word : ℕ) → Contains first.missed.gained word → due (word_family (map_of c) word)
    earlier_miss word has =
        let asked : Contains b.missed word =
        subst (λ l. Contains l word) (sym first.missed.missed)
        (Contains-append_right a.missed first.missed.gained word has) in
        subst due (sym (word_stays b c first.sound later.sound later.keeps (first.sound.missed word asked)))
        (first.missed.each word has)

    pub WentAll-then : WentAll due a c
    WentAll-then = record {
      store = later.store ∙ first.store;
      keeps = grown_then (map_of a) (map_of b) (map_of c) first.keeps later.keeps;
      sound = later.sound;
      fills = record {
        gained = first.fills.gained ++ later.fills.gained;
        fills =
            later.fills.fills ∙ ap (λ l. l ++ later.fills.gained) first.fills.fills
            ∙ append_assoc a.fills first.fills.gained later.fills.gained;
        each = λ r has. elim (Contains-append_cases first.fills.gained later.fills.gained r has) [
          | inl early ↦ earlier_fill r early
          | inr late ↦ later.fills.each r late
        ];
      };
      missed = record {
        gained = first.missed.gained ++ later.missed.gained;
        missed =
            later.missed.missed ∙ ap (λ l. l ++ later.missed.gained) first.missed.missed
            ∙ append_assoc a.missed first.missed.gained later.missed.gained;
        each = λ word has. elim (Contains-append_cases first.missed.gained later.missed.gained word has) [
          | inl early ↦ earlier_miss word early
          | inr late ↦ later.missed.each word late
        ];
      };
      fulls =
          let e = length-append first.missed.gained later.missed.gained in
          let f = first.fulls in
          let l = later.fulls in
          omega (arith, e, f, l);
    }

  -- ---- seats that are split off and joined

  -- a seat goes on counting
  pub CountsDue-went : {before after : Seated} → CountsDue due before → WentAll due before after → CountsDue due after
  CountsDue-went {before} {after} counts went = record {
    sound = went.sound;
    fills =
        λ r has. elim (Contains-append_cases before.fills went.fills.gained r
        (subst (λ l. Contains l r) went.fills.fills has)) [
          | inl early ↦
              subst due
              (sym (family-grown (map_of before) (map_of after) r counts.sound.closed went.sound.closed went.keeps
              (inr (counts.sound.fills r early))))
              (counts.fills r early)
          | inr late ↦ went.fills.each r late
        ];
    missed =
        λ word has. elim (Contains-append_cases before.missed went.missed.gained word
        (subst (λ l. Contains l word) went.missed.missed has)) [
          | inl early ↦
              subst due (sym (word_stays before after counts.sound went.sound went.keeps
              (counts.sound.missed word early))) (counts.missed word early)
          | inr late ↦ went.missed.each word late
        ];
    fulls =
        let e = length-append before.missed went.missed.gained in
        let n : length after.missed ≡ length (before.missed ++ went.missed.gained) =
        ap (λ (l : List ℕ). length l) went.missed.missed in
        let f = counts.fulls in
        let w = went.fulls in
        omega (arith, e, n, f, w);
  }

  -- a seat takes in what another one counted
  pub WentAll-joined : {before other after : Seated} → CountsDue due other → Joined before other after
      → WentAll due before after
  WentAll-joined {before} {other} {after} counts joined = record {
    store = joined.store;
    keeps = joined.keeps;
    sound = joined.sound;
    fills = record {
      gained = other.fills;
      fills = joined.fills;
      each = λ r has.
          subst due
          (sym (family-grown (map_of other) (map_of after) r counts.sound.closed joined.sound.closed joined.gains
          (inr (counts.sound.fills r has))))
          (counts.fills r has);
    };
    missed = record {
      gained = other.missed;
      missed = joined.missed;
      each = λ word has.
          subst due (sym (word_stays other after counts.sound joined.sound joined.gains
          (counts.sound.missed word has))) (counts.missed word has);
    };
    fulls = joined.fulls ∙ ap (λ n. before.fulls + n) counts.fulls;
  }
