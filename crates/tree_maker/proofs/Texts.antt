-- Texts that grow by pieces.
use Rattle.std.proofs.Common.{◌≡◌, ℕ, zero, suc, ◌+◌, ◌/◌, List, [], ◌++◌, refl, sym, ap, ◌∙◌, arith, append_assoc}
use Rattle.std.proofs.Common.{append-nil, lit<}
use Rattle.std.specs.{Prelude.codes, Prelude.decimal, List.flat_map, List.range_with_len}
use Rattle.std.proofs.{lemmas.Fmt.decimal_digit, lemmas.List.Concat.flat_map-append, lemmas.List.Folds.flat_map-map}
use Rattle.std.proofs.Common.{map}
use Rattle.deck_reading.specs.Written.{Bare, WrittenStatement, input_text, statement_text, written}
use Rattle.tree_maker.specs.Names.{gate_name, trigger_name, units_in}
use Rattle.tree_maker.specs.MadeDeck.{crew_lines, return_count, return_line, take_line, fdep_count, fdep_gate}
use Rattle.tree_maker.specs.MadeDeck.{group_count, group_gate, groups, made_statements, triggers, unit_line}
use Rattle.tree_maker.proofs.Ranges.{range-append}

pub two_of_three : decimal 2 ++ (codes "of" ++ decimal 3) ≡ codes "2of3"
two_of_three =
    ap (λ l. l ++ (codes "of" ++ decimal 3)) (decimal_digit 2 (lit< tt))
    ∙ ap (λ l. codes "2of" ++ l) (decimal_digit 3 (lit< tt))

-- one number more
pub flat_range-more : (f : ℕ → List ℕ) (i : ℕ) → flat_map f (range_with_len 0 (i + 1))
    ≡ flat_map f (range_with_len 0 i) ++ f i
flat_range-more f i =
    let start : 0 + i ≡ i = omega arith in
    ap (flat_map f) (sym (range-append 0 i 1))
    ∙ flat_map-append f (range_with_len 0 i) (range_with_len (0 + i) 1)
    ∙ ap (λ k. flat_map f (range_with_len 0 i) ++ (f k ++ [])) start
    ∙ ap (λ l. flat_map f (range_with_len 0 i) ++ l) (append-nil (f i))

pub one_more : (f : ℕ → List ℕ) (before : List ℕ) {now next : List ℕ} (i : ℕ)
    → now ≡ before ++ flat_map f (range_with_len 0 i)
    → next ≡ now ++ f i
    → next ≡ before ++ flat_map f (range_with_len 0 (i + 1))
one_more f before i here more =
    more ∙ ap (λ l. l ++ f i) here ∙ append_assoc before (flat_map f (range_with_len 0 i)) (f i)
    ∙ ap (λ l. before ++ l) (sym (flat_range-more f i))

right_nested : (before a b c d e f g : List ℕ) → ((((((before ++ a) ++ b) ++ c) ++ d) ++ e) ++ f) ++ g
    ≡ before ++ (a ++ (b ++ (c ++ (d ++ (e ++ (f ++ g))))))
right_nested before a b c d e f g = simp append_assoc

-- ---- the parts of the deck, as they are put

module _ (number : ℕ) where
  abbrev inputs_text : List ℕ
  inputs_text = flat_map (λ group. input_text (Bare (gate_name group))) (groups number)

  abbrev groups_text : List ℕ
  groups_text = flat_map (λ group. statement_text (group_gate number group)) (groups number)

  abbrev fdeps_text : List ℕ
  fdeps_text = flat_map (λ q. statement_text (fdep_gate q)) (range_with_len 0 (fdep_count number))

  abbrev units_text : List ℕ
  units_text = flat_map (λ group. flat_map (λ name. statement_text (unit_line name)) (units_in group)) (groups number)

  abbrev triggers_text : List ℕ
  triggers_text = flat_map (λ trigger. statement_text (unit_line (trigger_name trigger))) triggers

  nested : (s n : ℕ) → flat_map statement_text
      (flat_map (λ group. map unit_line (units_in group)) (range_with_len s n))
      ≡ flat_map (λ group. flat_map (λ name. statement_text (unit_line name)) (units_in group)) (range_with_len s n)
  nested s zero = refl
  nested s (suc n) =
      flat_map-append statement_text (map unit_line (units_in s))
      (flat_map (λ group. map unit_line (units_in group)) (range_with_len (s + 1) n))
      ∙ ap (λ l. flat_map (λ name. statement_text (unit_line name)) (units_in s) ++ l) (nested (s + 1) n)

  abbrev behind_lines : List WrittenStatement
  behind_lines = map (group_gate number) (groups number)
      ++ (map fdep_gate (range_with_len 0 (fdep_count number))
      ++ (flat_map (λ group. map unit_line (units_in group)) (groups number) ++ map
      (λ trigger. unit_line (trigger_name trigger)) triggers))

  behind_top : written (map (group_gate number) (groups number)
      ++ (map fdep_gate (range_with_len 0 (fdep_count number))
      ++ (flat_map (λ group. map unit_line (units_in group)) (groups number) ++ map
      (λ trigger. unit_line (trigger_name trigger)) triggers)))
      ≡ groups_text ++ (fdeps_text ++ (units_text ++ triggers_text))
  behind_top =
      let one : List WrittenStatement = map (group_gate number) (groups number) in
      let two : List WrittenStatement = map fdep_gate (range_with_len 0 (fdep_count number)) in
      let three : List WrittenStatement = flat_map (λ group. map unit_line (units_in group)) (groups number) in
      let four : List WrittenStatement = map (λ trigger. unit_line (trigger_name trigger)) triggers in
      flat_map-append statement_text one (two ++ (three ++ four))
      ∙ ap (λ l. written one ++ l) (flat_map-append statement_text two (three ++ four)
      ∙ ap (λ l. written two ++ l) (flat_map-append statement_text three four))
      ∙ ap (λ l. l ++ (written two ++ (written three ++ written four)))
      (flat_map-map statement_text (group_gate number) (groups number))
      ∙ ap (λ l. groups_text ++ (l ++ (written three ++ written four)))
      (flat_map-map statement_text fdep_gate (range_with_len 0 (fdep_count number)))
      ∙ ap (λ l. groups_text ++ (fdeps_text ++ (l ++ written four))) (nested 0 (group_count number))
      ∙ ap (λ l. groups_text ++ (fdeps_text ++ (units_text ++ l)))
      (flat_map-map statement_text (λ trigger. unit_line (trigger_name trigger)) triggers)

  written_is : written (made_statements number) ≡ codes "toplevel t;\nt or"
      ++ (inputs_text ++ (codes ";\n" ++ (groups_text ++ (fdeps_text ++ (units_text ++ triggers_text)))))
  written_is =
      ap (λ l. codes "toplevel t;\nt or" ++ l)
      (append_assoc (flat_map input_text (map (λ group. Bare (gate_name group)) (groups number))) (codes ";\n")
      (written behind_lines)
      ∙ ap (λ l. l ++ (codes ";\n" ++ written behind_lines))
      (flat_map-map input_text (λ group. Bare (gate_name group)) (groups number))
      ∙ ap (λ l. inputs_text ++ (codes ";\n" ++ l)) behind_top)

  -- seven pieces one after another are the tree part
  pub tree_put : {count : ℕ} (before : List ℕ) {one two three four five six seven : List ℕ} → count ≡ group_count number
      → one ≡ before ++ codes "toplevel t;\nt or"
      → two ≡ one ++ flat_map (λ group. input_text (Bare (gate_name group))) (range_with_len 0 count)
      → three ≡ two ++ codes ";\n"
      → four ≡ three ++ flat_map (λ group. statement_text (group_gate number group)) (range_with_len 0 count)
      → five ≡ four ++ flat_map (λ q. statement_text (fdep_gate q)) (range_with_len 0 ((count + 4) / 5))
      → six ≡ five ++ flat_map (λ group. flat_map (λ name. statement_text (unit_line name)) (units_in group))
      (range_with_len 0 count)
      → seven ≡ six ++ triggers_text → seven ≡ before ++ written (made_statements number)
  tree_put before {one} {two} {three} {four} {five} {six} is a b c d e f g =
      let b2 : two ≡ one ++ inputs_text = b
      ∙ ap (λ n. one ++ flat_map (λ group. input_text (Bare (gate_name group))) (range_with_len 0 n)) is in
      let d2 : four ≡ three ++ groups_text = d
      ∙ ap (λ n. three ++ flat_map (λ group. statement_text (group_gate number group)) (range_with_len 0 n)) is in
      let e2 : five ≡ four ++ fdeps_text = e
      ∙ ap (λ n. four ++ flat_map (λ q. statement_text (fdep_gate q)) (range_with_len 0 ((n + 4) / 5))) is in
      let f2 : six ≡ five ++ units_text = f
      ∙ ap (λ n. five ++ flat_map (λ group. flat_map (λ name. statement_text (unit_line name)) (units_in group))
      (range_with_len 0 n)) is in
      g ∙ ap (λ l. l ++ triggers_text)
      (f2 ∙ ap (λ l. l ++ units_text)
      (e2 ∙ ap (λ l. l ++ fdeps_text)
      (d2 ∙ ap (λ l. l ++ groups_text) (c ∙ ap (λ l. l ++ codes ";\n") (b2 ∙ ap (λ l. l ++ inputs_text) a)))))
      ∙ right_nested before (codes "toplevel t;\nt or") inputs_text
      (codes ";\n") groups_text fdeps_text units_text triggers_text
      ∙ ap (λ l. before ++ l) (sym written_is)

  -- and three pieces are the crew part
  pub crew_put : {count : ℕ} (before : List ℕ) {one two three : List ℕ} → count ≡ group_count number
      → one ≡ before ++ codes "@crews\ncrew maker\n"
      → two ≡ one ++ flat_map (λ group. flat_map take_line (units_in group)) (range_with_len 0 count)
      → three ≡ two ++ flat_map return_line (range_with_len 0 ((count + 1) / 2))
      → three ≡ before ++ (codes "@crews\n" ++ crew_lines number)
  crew_put before {one} {two} {three} is a b c =
      let takes : List ℕ = flat_map (λ group. flat_map take_line (units_in group)) (groups number) in
      let returns : List ℕ = flat_map return_line (range_with_len 0 (return_count number)) in
      let b2 : two ≡ one ++ takes = b
      ∙ ap (λ n. one ++ flat_map (λ group. flat_map take_line (units_in group)) (range_with_len 0 n)) is in
      let c2 : three ≡ two ++ returns = c ∙ ap (λ n. two ++ flat_map return_line (range_with_len 0 ((n + 1) / 2))) is in
      c2 ∙ ap (λ l. l ++ returns) (b2 ∙ ap (λ l. l ++ takes) a)
      ∙ append_assoc (before ++ codes "@crews\ncrew maker\n") takes returns
      ∙ append_assoc before (codes "@crews\ncrew maker\n") (takes ++ returns)
