-- Each log has a verdict.
use Rattle.std.specs.Prelude.{◌≡◌, ◌⊎◌, ℕ, zero, suc, ◌+◌, ◌<◌, List, [], ◌∷◌, ◌++◌, length, Option}
use Rattle.std.specs.Prelude.{Some, None}
use Rattle.std.proofs.Common.{refl, sym, ap, subst, ◌∙◌, arith, inl, inr}
use Rattle.std.proofs.{lemmas.Bool.cases_eq, lemmas.Option.same_Some}
use Rattle.fault_definitions.specs.Tree.{FaultTree}
use Rattle.crew_script.specs.{Dockets.IsDockets, Dockets.request_count, declared.dockets.Crew.Crew}
use Rattle.unit_sets.specs.declared.request.CrewNo.{CrewNo}
use Rattle.outage_board.specs.declared.entry.Entry.{Entry}
use Rattle.outage_board.specs.Boards.{BoardView, Deck, deck_of, next_entry}
use Rattle.board_report.specs.LogText.{entry_line}
use Rattle.board_audit.specs.declared.verdict.Verdict.{Verdict}
use Rattle.board_audit.specs.declared.verdict.Verdict.TheVariants.{Yes, Header, Entry as EntryVerdict, Rest}
use Rattle.board_audit.specs.{Pieces.behind, Reading.ReadsEntry, Reading.ShowsNext}
use Rattle.board_audit.specs.Verdicts.{IsVerdict, deck_head}
use Rattle.board_audit.proofs.PieceLemmas.{behind-self, behind_is}
use Rattle.board_audit.proofs.Judging.{HasRead, made_fact, read_none, read_one, read_length, stops_at, ends_there}
use Rattle.board_audit.proofs.Judging.{goes_on, no_head}
use Rattle.board_audit.proofs.WholeLogs.{HasCome, comes_on_one, opened}

none_some : {P X : Type 0} {x : X} → None ≡ Some x → P
none_some e = absurd cc

-- a text begins with the entry that is made for a crew next
record Shows (board : BoardView) (text : List ℕ) (crew : ℕ) : Type 0 where
  entry : Entry
  rest : List ℕ
  due : next_entry board (record { 0 = crew }) ≡ Some entry
  shown : ShowsNext board text entry rest

module _ (board : BoardView) (text : List ℕ) where
  abbrev line : Entry → List ℕ
  line entry = entry_line board.deck.crews (length board.history + 1) entry

  -- whether it does
  whether_shown : (crew : ℕ) → Shows board text crew ⊎ (¬ Shows board text crew)
  whether_shown crew = by_next (next_entry board (record { 0 = crew })) refl
    where
      by_text : (entry : Entry) → next_entry board (record { 0 = crew }) ≡ Some entry → (rest : Option (List ℕ))
          → behind (line entry) text ≡ rest → Shows board text crew ⊎ (¬ Shows board text crew)
      by_text entry due None none =
          inr (λ shows. let same : entry ≡ shows.entry = same_Some entry shows.entry (sym due ∙ shows.due) in
          none_some (sym none ∙ ap (λ e. behind (line e) text) same ∙ ap (behind (line shows.entry)) shows.shown
          ∙ behind-self (line shows.entry) shows.rest))
      by_text entry due (Some rest) some =
          inl (record { entry = entry; rest = rest; due = due; shown = behind_is (line entry) text some })

      by_next : (made : Option Entry) → next_entry board (record { 0 = crew }) ≡ made
          → Shows board text crew ⊎ (¬ Shows board text crew)
      by_next None none = inr (λ shows. none_some (sym none ∙ shows.due))
      by_next (Some entry) due = by_text entry due (behind (line entry) text) refl

  -- one of the first crews whose entry the text begins with, or none of them is one
  first_shown : (count : ℕ) → ((crew : ℕ) × (crew < count) × Shows board text crew)
      ⊎ ((crew : ℕ) → crew < count → ¬ Shows board text crew)
  first_shown zero = inr (λ crew low. absurd (omega (arith, low)))
  first_shown (suc count) = elim (first_shown count) [
    | inl found ↦ inl (found.0, omega (arith, found.1), found.2)
    | inr none ↦ elim (whether_shown count) [
      | inl shows ↦ inl (count, omega arith, shows)
      | inr not_it ↦ inr (λ crew low shows. elim (cases_eq crew count) [
        | inl same ↦ not_it (subst (Shows board text) same shows)
        | inr apart ↦ none crew (below_last crew count low apart) shows
      ])
    ]
  ]
    where
      below_last : (crew count : ℕ) → crew < suc count → (crew ≡ count → ⊥) → crew < count
      below_last crew count low apart = omega (arith, low, apart)

module _ (tree : FaultTree) (cuts : List (List ℕ)) (crews : List Crew) (margin : ℕ) (kept : IsDockets crews) where
  abbrev deck : Deck
  deck = deck_of tree cuts crews margin

  abbrev opening : BoardView
  opening = record { deck = deck; history = [] }

  abbrev Found : List ℕ → Type 0
  Found log = (verdict : Verdict) × IsVerdict deck log verdict

  -- what comes of the lines that are left, where so many requests are
  on_from : (lines : List ℕ) (left : ℕ) (history : List Entry) (rest : List ℕ)
      → HasCome (record { deck = deck; history = history })
      → HasRead opening lines (record { deck = deck; history = history }) rest
      → length history + left ≡ request_count crews → Found (deck_head deck ++ lines)
  on_from lines zero history [] come has long = (
    Yes,
    ends_there has come.keeps.sound (let e : length history ≡ request_count crews = omega (arith, long) in e) refl,
  )
  on_from lines zero history (byte ∷ rest) come has long = (
    Rest,
    goes_on has come.keeps.sound (let e : length history ≡ request_count crews = omega (arith, long) in e)
        (λ e. absurd cc),
  )
  on_from lines (suc left) history rest come has long =
      let board : BoardView = record { deck = deck; history = history } in
      elim (first_shown board rest (length crews)) [
        | inl found ↦
            let shows = found.2 in
            let own : shows.entry.crew ≡ record { 0 = found.0 } =
            (made_fact board (record { 0 = found.0 }) shows.due).own in
            let due : next_entry board shows.entry.crew ≡ Some shows.entry = ap (next_entry board) own ∙ shows.due in
            let longer : BoardView = record { deck = deck; history = history ++ shows.entry ∷ [] } in
            let reads : ReadsEntry board longer rest shows.rest =
            record { entry = shows.entry; due = due; shown = shows.shown; board = refl } in
            on_from lines left (history ++ shows.entry ∷ []) shows.rest
            (comes_on_one deck history shows.entry come
            (subst (λ (c : CrewNo). c.0 < length crews) (sym own) found.1) due)
            (read_one has reads)
            (let e = read_length reads in omega (arith, long))
        | inr none ↦ (
          EntryVerdict (length history + 1),
          stops_at has come.keeps.sound (length history) refl kept (omega (arith, long))
              (λ entry more low due shown. none entry.crew.0 low
              (record { entry = entry; rest = more; due = due; shown = shown })),
        )
      ]

  lines_verdict : (lines : List ℕ) → Found (deck_head deck ++ lines)
  lines_verdict lines =
      on_from lines (request_count crews) [] lines (opened tree cuts crews margin kept)
      (read_none {old = opening} refl) (let e : 0 + request_count crews ≡ request_count crews = omega arith in e)

  by_head : (log : List ℕ) (rest : Option (List ℕ)) → behind (deck_head deck) log ≡ rest → Found log
  by_head log None none = (Header, no_head deck log (sym none))
  by_head log (Some lines) some =
      let found = lines_verdict lines in
      (found.0, subst (λ l. IsVerdict deck l found.0) (sym (behind_is (deck_head deck) log some)) found.1)

pub some_verdict : (tree : FaultTree) (cuts : List (List ℕ)) (crews : List Crew) (margin : ℕ) (log : List ℕ)
    → IsDockets crews → (verdict : Verdict) × IsVerdict (deck_of tree cuts crews margin) log verdict
some_verdict tree cuts crews margin log kept =
    by_head tree cuts crews margin kept log (behind (deck_head (deck_of tree cuts crews margin)) log) refl
