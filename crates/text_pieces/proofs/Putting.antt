-- A text that is put piece by piece. Once a write has failed the rest counts as put, since nothing more is written.
use Rattle.std.specs.Prelude.{◌≡◌, ℕ, ◌+◌, ◌<◌, true, List, [], ◌++◌, length, drop, get_or, Option}
use Rattle.std.specs.List.{flat_map}
use Rattle.std.proofs.Common.{sym, ap, subst, ◌∙◌, refl, append-nil, append_assoc}
use Rattle.std.proofs.lemmas.List.{drop_more}
use Rattle.edge_io.specs.Out.{Output, Puts, has_failed}
use Rattle.edge_io.proofs.OutLemmas.{Puts-none, Puts-trans, Puts-failed}

-- a front of a text is put, and the rest is still to be put
pub record PutsFront {K : Type 0} (taken : K → Option (List ℕ)) (faults : K → ℕ) (old now : Output K)
    (rest whole : List ℕ) : Type 0 where
  pub front : List ℕ
  pub puts : Puts taken faults old now front
  pub split : front ++ rest ≡ whole

module _ {K : Type 0} (taken : K → Option (List ℕ)) (faults : K → ℕ) where
  -- nothing is put
  pub begun : {old : Output K} {whole : List ℕ} → PutsFront taken faults old old whole whole
  begun = record { front = []; puts = Puts-none; split = refl }

  -- everything is
  pub whole_put : {old now : Output K} {whole : List ℕ} → PutsFront taken faults old now [] whole
      → Puts taken faults old now whole
  whole_put {old} {now} so = subst (Puts taken faults old now) (sym (append-nil so.front) ∙ so.split) so.puts

  -- one piece more
  pub one_more : {old mid now : Output K} {left piece rest whole : List ℕ} → PutsFront taken faults old mid left whole
      → Puts taken faults mid now piece
      → left ≡ piece ++ rest → PutsFront taken faults old now rest whole
  one_more {piece} {rest} so put is = record {
    front = so.front ++ piece;
    puts = Puts-trans so.puts put;
    split = append_assoc so.front piece rest ∙ ap (λ l. so.front ++ l) (sym is) ∙ so.split;
  }

  -- and then a write has failed
  pub cut_short : {old mid now : Output K} {left piece : List ℕ} (rest : List ℕ) {whole : List ℕ}
      → PutsFront taken faults old mid left whole
      → Puts taken faults mid now piece
      → left ≡ piece ++ rest → has_failed now ≡ true → Puts taken faults old now whole
  cut_short {old} {now} rest so put is failed =
      let more = one_more {rest = rest} so put is in
      subst (Puts taken faults old now) more.split (Puts-trans more.puts (Puts-failed failed))

-- ---- lists of pieces

-- what is still to be put of a list of pieces
abbrev pub left_of : {X : Type 0} → (X → List ℕ) → List X → ℕ → List ℕ
left_of f pieces i = flat_map f (drop i pieces)

pub next_piece : {X : Type 0} (f : X → List ℕ) (pieces : List X) (i : ℕ) (d : X) → i < length pieces
    → left_of f pieces i ≡ f (get_or pieces i d) ++ left_of f pieces (i + 1)
next_piece f pieces i d short = ap (flat_map f) (drop_more pieces i d short)

-- the same of a piece that has a name of its own
pub piece_named : {X : Type 0} (f : X → List ℕ) (pieces : List X) (i : ℕ) (d : X) {piece : X} → i < length pieces
    → piece ≡ get_or pieces i d
    → left_of f pieces i ≡ f piece ++ left_of f pieces (i + 1)
piece_named f pieces i d short is = next_piece f pieces i d short ∙ ap (λ x. f x ++ left_of f pieces (i + 1)) (sym is)

-- ---- a few pieces in a row

module _ {K : Type 0} (taken : K → Option (List ℕ)) (faults : K → ℕ) where
  -- the first piece failed
  pub first_short : {old now : Output K} {piece : List ℕ} (rest : List ℕ) → Puts taken faults old now piece
      → has_failed now ≡ true
      → Puts taken faults old now (piece ++ rest)
  first_short rest put failed = Puts-trans put (Puts-failed failed)

  -- the second
  pub second_short : {old mid now : Output K} {piece more : List ℕ} (rest : List ℕ) → Puts taken faults old mid piece
      → Puts taken faults mid now more → has_failed now ≡ true
      → Puts taken faults old now (piece ++ (more ++ rest))
  second_short {mid} {now} {more} rest put then failed =
      Puts-trans put (first_short {old = mid} {now = now} {piece = more} rest then failed)

  -- none did
  pub all_three : {old mid : Output K} (later : Output K) {now : Output K} {piece more rest : List ℕ}
      → Puts taken faults old mid piece
      → Puts taken faults mid later more → Puts taken faults later now rest
      → Puts taken faults old now (piece ++ (more ++ rest))
  all_three {mid} later {now} {more} {rest} put then last =
      Puts-trans put
      (Puts-trans {taken = taken} {faults = faults} {old = mid} {mid = later} {new = now} {text = more} {more = rest}
      then last)

  -- all four
  pub all_four : {old mid : Output K} (later : Output K) {end now : Output K} {piece more next rest : List ℕ}
      → Puts taken faults old mid piece
      → Puts taken faults mid later more → Puts taken faults later end next → Puts taken faults end now rest
      → Puts taken faults old now (piece ++ (more ++ (next ++ rest)))
  all_four {mid} later {end} {now} {more} {next} {rest} put then after last =
      Puts-trans put
      (all_three {old = mid} {mid = later} end {now = now} {piece = more} {more = next} {rest = rest} then after last)
