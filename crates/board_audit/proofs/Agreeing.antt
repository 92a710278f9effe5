-- A log has the lines of one history alone.
use Rattle.std.specs.Prelude.{◌≡◌, ℕ, suc, ◌+◌, ◌<◌, ◌≤◌, List, [], ◌∷◌, ◌++◌, length, take, drop}
use Rattle.std.proofs.Common.{refl, sym, ap, subst, ◌∙◌, arith, append_assoc}
use Rattle.std.proofs.lemmas.{Option.same_Some}
use Rattle.std.proofs.lemmas.List.{append_cancel_left, length-append, length-take-le, take-append-drop}
use Rattle.crew_script.specs.{Dockets.IsDockets, declared.dockets.Crew.Crew}
use Rattle.outage_board.specs.declared.entry.Entry.{Entry}
use Rattle.outage_board.specs.Boards.{Deck, next_entry}
use Rattle.board_report.specs.LogText.{entry_line, entry_lines}
use Rattle.board_audit.specs.{Front.crew_of_line}
use Rattle.board_audit.specs.Verdicts.{Agrees, AgreesUpTo, IsHistory, deck_head}
use Rattle.board_audit.proofs.FrontLemmas.{line_tells}
use Rattle.board_audit.proofs.Beginnings.{is_front, parted, is_next, is_low}

pub entry_lines-append : (crews : List Crew) (number : ℕ) (front more : List Entry)
    → entry_lines crews number (front ++ more)
    ≡ entry_lines crews number front ++ entry_lines crews (number + length front) more
entry_lines-append crews number [] more =
    ap (λ n. entry_lines crews n more) (let e : number ≡ number + 0 = omega arith in e)
entry_lines-append crews number (entry ∷ front) more =
    ap (λ l. entry_line crews number entry ++ l) (entry_lines-append crews (number + 1) front more
    ∙ ap (λ n. entry_lines crews (number + 1) front ++ entry_lines crews n more)
    (let e : number + 1 + length front ≡ number + suc (length front) = omega arith in e))
    ∙ sym (append_assoc (entry_line crews number entry) (entry_lines crews (number + 1) front)
    (entry_lines crews (number + suc (length front)) more))

-- a history goes on from another, whose lines leave the rest of a text: it has the lines in this rest
pub record GoesOnFrom (crews : List Crew) (entries others : List Entry) (number : ℕ) (rest left : List ℕ) : Type 0 where
  pub more : List Entry
  pub is : others ≡ entries ++ more
  pub text : rest ≡ entry_lines crews number more ++ left

-- the same behind one and the same entry
also_from : {crews : List Crew} {entry other : Entry} {entries others : List Entry} {number : ℕ} {rest left : List ℕ}
    → entry ≡ other → GoesOnFrom crews entries others number rest left
    → GoesOnFrom crews (entry ∷ entries) (other ∷ others) number rest left
also_from {entry} {others} same on = record {
  more = on.more;
  is = ap (λ e. e ∷ others) (sym same) ∙ ap (λ l. entry ∷ l) on.is;
  text = on.text;
}

module _ (deck : Deck) (kept : IsDockets deck.crews) (all : length deck.dockets ≡ length deck.crews) where
  -- the crew of an entry that follows a beginning
  is_one : (front : List Entry) (entry : Entry) (more : List Entry) → IsHistory deck (front ++ entry ∷ more)
      → entry.crew.0 < length deck.crews
  is_one front entry more of_deck = let low = is_low front entry more of_deck in omega arith

  same_next : (number : ℕ) (front : List Entry) (entry other : Entry) (entries others : List Entry)
      (rest left : List ℕ) → IsHistory deck (front ++ entry ∷ entries) → IsHistory deck (front ++ other ∷ others)
      → entry_line deck.crews number entry ++ rest ≡ entry_line deck.crews number other ++ left → entry ≡ other
  same_next number front entry other entries others rest left one two text =
      let crew : entry.crew ≡ other.crew =
      same_Some entry.crew other.crew (sym (line_tells deck.crews number entry rest kept
      (is_one front entry entries one))
      ∙ ap (crew_of_line deck.crews number) text
      ∙ line_tells deck.crews number other left kept (is_one front other others two)) in
      same_Some entry other (sym (is_next front entry entries one)
      ∙ ap (next_entry (record { deck = deck; history = front })) crew ∙ is_next front other others two)

  further : (front entries others : List Entry) (number end : ℕ) (rest left : List ℕ)
      → IsHistory deck (front ++ entries) → IsHistory deck (front ++ others) → length entries ≤ length others
      → end ≡ number + length entries
      → entry_lines deck.crews number entries ++ rest ≡ entry_lines deck.crews number others ++ left
      → GoesOnFrom deck.crews entries others end rest left
  further front [] others number end rest left one two few at text = record {
    more = others;
    is = refl;
    text = text ∙ ap (λ n. entry_lines deck.crews n others ++ left)
        (let e : number ≡ end = omega (arith, at) in e);
  }
  further front (entry ∷ entries) [] number end rest left one two few at text = absurd (omega (arith, few))
  further front (entry ∷ entries) (other ∷ others) number end rest left one two few at text =
      let line = entry_line deck.crews number in
      let lines = entry_lines deck.crews (number + 1) in
      let apart : line entry ++ (lines entries ++ rest) ≡ line other ++ (lines others ++ left) =
      sym (append_assoc (line entry) (lines entries) rest) ∙ text ∙ append_assoc (line other) (lines others) left in
      let same =
      same_next number front entry other entries others (lines entries ++ rest) (lines others ++ left) one two apart in
      let also : IsHistory deck (front ++ entry ∷ others) =
      subst (λ e. IsHistory deck (front ++ e ∷ others)) (sym same) two in
      let behind : lines entries ++ rest ≡ lines others ++ left =
      append_cancel_left (line entry) (lines entries ++ rest) (lines others ++ left)
      (apart ∙ ap (λ e. line e ++ (lines others ++ left)) (sym same)) in
      also_from same
      (further (front ++ entry ∷ []) entries others (number + 1) end rest left (parted front entry entries one)
      (parted front entry others also) (omega (arith, few)) (omega (arith, at)) behind)

  -- two histories whose lines a log begins with
  pub agreeing : {log : List ℕ} {number count : ℕ} {rest left : List ℕ} (one : Agrees deck log number rest)
      (two : Agrees deck log count left) → number ≤ count
      → GoesOnFrom deck.crews one.history two.history (number + 1) rest left
  agreeing {number} {count} {rest} {left} one two few =
      let long = one.long in
      let longer = two.long in
      further [] one.history two.history 1 (number + 1) rest left one.of_deck two.of_deck (omega (arith, few))
      (omega arith)
      (append_cancel_left (deck_head deck) (entry_lines deck.crews 1 one.history ++ rest)
      (entry_lines deck.crews 1 two.history ++ left) (sym one.text ∙ two.text))

  -- nothing more follows the one than the other, where they are as long
  pub same_rest : {log : List ℕ} {number : ℕ} {rest left : List ℕ} → Agrees deck log number rest
      → Agrees deck log number left → rest ≡ left
  same_rest {number} {rest} {left} one two =
      let on = agreeing one two (omega arith) in
      let none = no_more on.more (let e = ap length on.is in let a = length-append one.history on.more in
      let l = one.long in let m = two.long in omega arith) in
      on.text ∙ ap (λ es. entry_lines deck.crews (number + 1) es ++ left) none
    where
      no_more : (more : List Entry) → length more ≡ 0 → more ≡ []
      no_more [] none = refl
      no_more (entry ∷ more) none = absurd (omega (arith, none))

-- a log agrees up to fewer entries, too
pub agrees_before : {deck : Deck} {log : List ℕ} {number count : ℕ} → AgreesUpTo deck log count → number ≤ count
    → AgreesUpTo deck log number
agrees_before {deck} {number} up few =
    let left = up.0 in
    let two = up.1 in
    let history = two.history in
    let whole : take number history ++ drop number history ≡ history = take-append-drop number history in
    let short = length-take-le number history (let l = two.long in omega (arith, few)) in (
      entry_lines deck.crews (1 + length (take number history)) (drop number history) ++ left,
      record {
        history = take number history;
        long = short;
        of_deck = is_front (take number history) (drop number history) (subst (IsHistory deck) (sym whole) two.of_deck);
        text =
            two.text
            ∙ ap (λ es. deck_head deck ++ (entry_lines deck.crews 1 es ++ left)) (sym whole)
            ∙ ap (λ l. deck_head deck ++ (l ++ left)) (entry_lines-append deck.crews 1 (take number history)
            (drop number history))
            ∙ ap (λ l. deck_head deck ++ l) (append_assoc (entry_lines deck.crews 1 (take number history))
            (entry_lines deck.crews (1 + length (take number history)) (drop number history)) left);
      },
    )
