-- The parts that are read of a deck are those that its first dividing line makes.
use Rattle.std.specs.Prelude.{◌≡◌, ◌↔◌, ◌⊎◌, ℕ, suc, ◌+◌, min, nat_eq, Bool, true, false, List}
use Rattle.std.specs.Prelude.{[], ◌∷◌, ◌++◌, length, take, get_or, codes, Option, Some, None}
use Rattle.std.specs.List.{All, list_any, position_or_len, before_first, after_first, count_by}
use Rattle.std.specs.Cmp.Lexicographic.{pointwise, same_text}
use Rattle.std.proofs.Common.{refl, sym, ap, ◌∙◌, subst, inl, inr, arith}
use Rattle.std.proofs.lemmas.Bool.{cases_lt, cases_eq, or_parts, or_cases, eq-eqb, ne_eqb}
use Rattle.std.proofs.{lemmas.List.length-append, lemmas.Grind.common_steps, lemmas.List.Folds.list_any-append}
use Rattle.std.proofs.{lemmas.List.Folds.list_any_none}
use Rattle.std.proofs.lemmas.List.Splits.{slice_split_at, slice_split_first, slice_split_none, length-slice_split}
use Rattle.std.proofs.lemmas.List.Sums.{fails_before_first, passes_at_first, split_at_first}
use Rattle.crew_script.specs.{declared.deck.CrewsAt.CrewsAt, declared.deck.Split.Split}
use Rattle.crew_script.specs.Deck.{is_feed, is_crews, lines_of, divided, split_by, split_of}
use Rattle.crew_script.specs.Divides.{without_return, size_of, IsDividedAt, CrewsBegin, Divides}

-- ---- a deck is divided in one way

divided_later : (size place number : ℕ) (before : List (List ℕ)) (line : List ℕ) (behind : List (List ℕ))
    → list_any is_crews before ≡ false → is_crews line ≡ true
    → split_by size place number (before ++ line ∷ behind)
    ≡ divided size (place + size_of before) (length line) (number + length before)
divided_later size place number [] line behind first hit =
    rw hit (ap (λ (p : ℕ × ℕ). divided size p.0 (length line) p.1)
    (λ i. ((let e : place ≡ place + 0 = omega arith in e) i, (let e : number ≡ number + 0 = omega arith in e) i)))
divided_later size place number (other ∷ before) line behind first hit =
    let (miss, none) = or_parts (is_crews other) (list_any is_crews before) first in
    let at : place + length other + 1 + size_of before ≡ place + (length other + 1 + size_of before) = omega arith in
    let under : number + 1 + length before ≡ number + length (other ∷ before) = omega arith in
    rw miss (divided_later size (place + length other + 1) (number + 1) before line behind none hit
    ∙ ap (λ (p : ℕ × ℕ). divided size p.0 (length line) p.1) (λ i. (at i, under i)))

undivided : (size place number : ℕ) (lines : List (List ℕ)) → list_any is_crews lines ≡ false
    → split_by size place number lines ≡ record { tree = size; crews = None }
undivided size place number [] none = refl
undivided size place number (line ∷ lines) none =
    let (miss, more) = or_parts (is_crews line) (list_any is_crews lines) none in
    rw miss (undivided size (place + length line + 1) (number + 1) lines more)

pub divided_once : (bytes : List ℕ) (split : Split) → Divides bytes split → split_of bytes ≡ split
divided_once bytes split is = by_crews split.crews is
  where
    by_crews : (crews : Option CrewsAt) → CrewsBegin bytes split.tree crews
        → split_of bytes ≡ record { tree = split.tree; crews = crews }
    by_crews None none =
        undivided (length bytes) 0 1 (lines_of bytes) none.1 ∙ ap (λ n. record { tree = n; crews = None }) (sym none.0)
    by_crews (Some crews) at =
        let tree : 0 + size_of at.before ≡ split.tree = let p = at.place in omega arith in
        let start : min (0 + size_of at.before + length at.line + 1) (length bytes) ≡ crews.start =
        ap (λ n. min (n + length at.line + 1) (length bytes)) tree ∙ sym at.start in
        let number : 1 + length at.before + 1 ≡ crews.line = let n = at.number in omega arith in
        ap (split_by (length bytes) 0 1) at.lines ∙ divided_later (length bytes) 0 1 at.before at.line at.behind
        at.first at.divides
        ∙ ap (λ (p : ℕ × ℕ × ℕ). record { tree = p.0; crews = Some (record { start = p.1; line = p.2 }) })
        (λ i. (tree i, start i, number i))

-- ---- the first line that divides

-- none of those before the first that passes a test passes it
none_before : {X : Type 0} (test : X → Bool) (all : List X) → All (λ x. test x ≡ false) (before_first test all)
none_before test all =
    λ k d short. let p = fails_before_first test all k d (grind (arith, common_steps)) in grind (arith, common_steps)

-- what is read of a deck is how it is divided
pub divided_so : (bytes : List ℕ) → Divides bytes (split_of bytes)
divided_so bytes =
    let lines = lines_of bytes in
    let before = before_first is_crews lines in
    let line = get_or lines (position_or_len is_crews lines) [] in
    elim (cases_lt (position_or_len is_crews lines) (length lines)) [
      | inl some ↦ so (record {
        tree = size_of before;
        crews =
            Some (record {
              start = min (size_of before + length line + 1) (length bytes);
              line = length before + 2;
            });
      }) (record {
        before = before;
        line = line;
        behind = after_first is_crews lines;
        lines = split_at_first is_crews lines [] some;
        first = list_any_none is_crews before (none_before is_crews lines);
        divides = passes_at_first is_crews lines [] some;
        place = refl;
        start = refl;
        number = refl;
      })
      | inr none ↦ so (record { tree = length bytes; crews = None })
          (refl, list_any_none is_crews lines (λ k d short. fails_before_first is_crews lines k d (omega arith)))
    ]
  where
    so : (split : Split) → Divides bytes split → Divides bytes (split_of bytes)
    so split divides = subst (Divides bytes) (sym (divided_once bytes split divides)) divides

-- ---- what stands before the line

take_behind : (line : List ℕ) (byte count : ℕ) (rest : List ℕ)
    → take (length line + 1 + count) (line ++ byte ∷ rest) ≡ line ++ byte ∷ take count rest
take_behind [] byte count rest = ap (λ n. take n (byte ∷ rest)) (let e : 0 + 1 + count ≡ suc count = omega arith in e)
take_behind (first ∷ line) byte count rest =
    ap (λ n. take n (first ∷ (line ++ byte ∷ rest)))
    (let e : length (first ∷ line) + 1 + count ≡ suc (length line + 1 + count) = omega arith in e)
    ∙ ap (λ l. first ∷ l) (take_behind line byte count rest)

parts_are : {first second : List ℕ} {some more : List (List ℕ)} → first ∷ some ≡ second ∷ more
    → (first ≡ second) × (some ≡ more)
parts_are e = (grind (arith, e), grind (arith, e))

pub lines_before : (before : List (List ℕ)) (line : List ℕ) (behind : List (List ℕ)) (bytes : List ℕ)
    → lines_of bytes ≡ before ++ line ∷ behind → lines_of (take (size_of before) bytes) ≡ before ++ [] ∷ []
lines_before [] line behind bytes are = refl
lines_before (first ∷ before) line behind bytes are =
    elim (cases_lt (position_or_len is_feed bytes) (length bytes)) [
      | inl feeds ↦
          let (same, later) = parts_are (sym (slice_split_first is_feed bytes 0 feeds) ∙ are) in
          let feed = get_or bytes (position_or_len is_feed bytes) 0 in
          let text : bytes ≡ first ++ feed ∷ after_first is_feed bytes =
          split_at_first is_feed bytes 0 feeds ∙ ap (λ l. l ++ feed ∷ after_first is_feed bytes) same in
          let front : All (λ x. is_feed x ≡ false) first =
          subst (All (λ x. is_feed x ≡ false)) same (none_before is_feed bytes) in
          ap (λ l. lines_of (take (length first + 1 + size_of before) l)) text
          ∙ ap lines_of (take_behind first feed (size_of before) (after_first is_feed bytes))
          ∙ slice_split_at is_feed first feed (take (size_of before) (after_first is_feed bytes)) front
          (passes_at_first is_feed bytes 0 feeds)
          ∙ ap (λ l. first ∷ l) (lines_before before line behind (after_first is_feed bytes) later)
      | inr none ↦
          let one : lines_of bytes ≡ bytes ∷ [] =
          slice_split_none is_feed bytes (λ k d short. fails_before_first is_feed bytes k d (omega arith)) in
          absurd (none_left before line behind (parts_are (sym one ∙ are)).1)
    ]
  where
    none_left : (before : List (List ℕ)) (line : List ℕ) (behind : List (List ℕ)) → [] ≡ before ++ line ∷ behind → ⊥
    none_left [] line behind e = absurd cc
    none_left (first ∷ before) line behind e = absurd cc

pub tree_part_undivided : (bytes : List ℕ) (tree : ℕ) (crews : CrewsAt) → IsDividedAt bytes tree crews
    → list_any is_crews (lines_of (take tree bytes)) ≡ false
tree_part_undivided bytes tree crews at =
    rw (
      at.place,
      lines_before at.before at.line at.behind bytes at.lines,
      list_any-append is_crews at.before ([] ∷ []),
      at.first,
    )
    refl

pub number_by_feeds : (bytes : List ℕ) (tree : ℕ) (crews : CrewsAt) → IsDividedAt bytes tree crews
    → crews.line ≡ count_by is_feed (take tree bytes) + 2
number_by_feeds bytes tree crews at =
    let lines : length (lines_of (take tree bytes)) ≡ length at.before + 1 =
    ap (λ n. length (lines_of (take n bytes))) at.place
    ∙ ap length (lines_before at.before at.line at.behind bytes at.lines) ∙ length-append at.before ([] ∷ []) in
    let feeds = length-slice_split is_feed (take tree bytes) in
    let n = at.number in
    omega arith

-- ---- the words of the line

with_return : (line : List ℕ) → (line ≡ without_return line) ⊎ (line ≡ without_return line ++ 13 ∷ [])
with_return [] = inl refl
with_return (byte ∷ []) = elim (cases_eq byte 13) [
  | inl return ↦ inr (rw (eq-eqb byte 13 return) (ap (λ b. b ∷ []) return))
  | inr other ↦ inl (rw (ne_eqb byte 13 other) refl)
]
with_return (byte ∷ next ∷ line) = elim (with_return (next ∷ line)) [
  | inl same ↦ inl (ap (λ l. byte ∷ l) same)
  | inr more ↦ inr (ap (λ l. byte ∷ l) more)
]

divides_either : (line : List ℕ) → is_crews line ≡ true → (line ≡ codes "@crews") ⊎ (line ≡ codes "@crews" ++ 13 ∷ [])
divides_either line is =
    elim (or_cases (pointwise nat_eq line (codes "@crews")) (pointwise nat_eq line (codes "@crews" ++ 13 ∷ [])) is) [
      | inl plain ↦ inl (same_text line (codes "@crews") (sym plain))
      | inr more ↦ inr (same_text line (codes "@crews" ++ 13 ∷ []) (sym more))
    ]

pub divides_without_return : (line : List ℕ) → (is_crews line ≡ true) ↔ (without_return line ≡ codes "@crews")
divides_without_return line = (
  λ is. elim (divides_either line is) [
    | inl plain ↦ ap without_return plain
    | inr more ↦ ap without_return more
  ],
  λ same. elim (with_return line) [
    | inl plain ↦ ap is_crews (plain ∙ same)
    | inr more ↦ ap is_crews (more ∙ ap (λ l. l ++ 13 ∷ []) same)
  ],
)
