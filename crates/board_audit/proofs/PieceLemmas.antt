-- Pieces of a text, one after another.
use Rattle.std.specs.Prelude.{◌≡◌, ◌≢◌, ℕ, ◌+◌, ◌<◌, ◌≤◌, Bool, true, false, ◌==◌, if◌then◌else◌, List, [], ◌∷◌}
use Rattle.std.specs.Prelude.{◌++◌, length, drop, get_or, codes, Option, Some, None, MatchOption}
use Rattle.std.specs.List.{flat_map}
use Rattle.std.specs.Borrow.{Bor}
use Rattle.std.proofs.Common.{refl, sym, ap, ◌∙◌, inl, inr, eq-eqb, eqb-true}
use Rattle.std.proofs.{lemmas.Bool.cases_Bool, lemmas.Option.same_Some, lemmas.List.drop_more, lemmas.List.drop_all}
use Rattle.fault_words.specs.Name.{is_bare_name}
use Rattle.text_pieces.specs.Shown.{show}
use Rattle.board_audit.specs.Pieces.{behind, past, lent}

pub past-nil : (text : Option (List ℕ)) → past [] text ≡ text
past-nil None = refl
past-nil (Some text) = refl

behind-append : (piece more text : List ℕ) → behind (piece ++ more) text ≡ past more (behind piece text)
behind-append [] more text = refl
behind-append (byte ∷ piece) more [] = refl
behind-append (byte ∷ piece) more (first ∷ text) = by_same (byte == first) (behind-append piece more text)
  where
    by_same : (same : Bool) → behind (piece ++ more) text ≡ past more (behind piece text)
        → (if same then behind (piece ++ more) text else None) ≡ past more (if same then behind piece text else None)
    by_same true later = later
    by_same false later = refl

-- two pieces are passed one after the other
pub past-append : (piece more : List ℕ) (text : Option (List ℕ))
    → past (piece ++ more) text ≡ past more (past piece text)
past-append piece more None = refl
past-append piece more (Some text) = behind-append piece more text

pub behind-self : (piece rest : List ℕ) → behind piece (piece ++ rest) ≡ Some rest
behind-self [] rest = refl
behind-self (byte ∷ piece) rest =
    ap (λ same. if same then behind piece (piece ++ rest) else None) (eq-eqb byte byte refl) ∙ behind-self piece rest

-- where something follows a piece, the text begins with the piece
pub behind_is : (piece text : List ℕ) {rest : List ℕ} → behind piece text ≡ Some rest → text ≡ piece ++ rest
behind_is [] text {rest} is = same_Some text rest is
behind_is (byte ∷ piece) [] is = absurd cc
behind_is (byte ∷ piece) (first ∷ text) {rest} is = elim (cases_Bool (byte == first)) [
  | inl same ↦
      ap (λ b. b ∷ text) (sym (eqb-true byte first same))
      ∙ ap (λ l. byte ∷ l) (behind_is piece text
      (sym (ap (λ b. if b then behind piece text else None) same) ∙ is))
  | inr apart ↦ absurd (none_some (sym (ap (λ b. if b then behind piece text else None) apart) ∙ is))
]
  where
    none_some : None ≡ Some rest → ⊥
    none_some e = absurd cc

-- what a slice says of its front
pub lent_is : (piece text : List ℕ) (rest : Option (Bor (List ℕ)))
    → MatchOption rest ((more : List ℕ) → text ≢ piece ++ more) (λ (more : Bor (List ℕ)). text ≡ piece ++ more.now)
    → lent rest ≡ behind piece text
lent_is piece text None none = by_found (behind piece text) (λ more is. none more (behind_is piece text is))
  where
    by_found : (found : Option (List ℕ)) → ((more : List ℕ) → found ≡ Some more → ⊥) → None ≡ found
    by_found None never = refl
    by_found (Some more) never = absurd (never more refl)
lent_is piece text (Some more) is = sym (behind-self piece more.now) ∙ ap (behind piece) (sym is)

-- one piece is passed, and then another
pub then_past : (start : Option (List ℕ)) {mid now : Option (List ℕ)} (piece more : List ℕ) → mid ≡ past piece start
    → now ≡ past more mid → now ≡ past (piece ++ more) start
then_past start piece more first second =
    second ∙ ap (past more) first ∙ sym (past-append piece more start)

-- the parts of a line
pub line_past : (start : Option (List ℕ)) (number name ask reply : List ℕ)
    {first second third fourth fifth end : Option (List ℕ)}
    → first ≡ past number start → second ≡ past name first → third ≡ past ask second
    → fourth ≡ past (codes ": ") third → fifth ≡ past reply fourth → end ≡ past (codes "\n") fifth
    → end ≡ past ((number ++ name) ++ (ask ++ (codes ": " ++ (reply ++ codes "\n")))) start
line_past start number name ask reply {first} {second} {third} {fourth} a b c d e f =
    then_past start (number ++ name) (ask ++ (codes ": " ++ (reply ++ codes "\n"))) (then_past start number name a b)
    (then_past second ask (codes ": " ++ (reply ++ codes "\n")) c
    (then_past third (codes ": ") (reply ++ codes "\n") d (then_past fourth reply (codes "\n") e f)))

-- a name that is no bare one, in quotes
pub past_quoted : (start : Option (List ℕ)) {now : Option (List ℕ)} (name : List ℕ) → false ≡ is_bare_name name
    → now ≡ past ((codes "\"" ++ name) ++ codes "\"") start → now ≡ past (show name) start
past_quoted start name is passed =
    passed ∙ ap (λ b. past (if b then name else codes "\"" ++ name ++ codes "\"") start) is

-- ---- pieces of a list

-- the next is passed
pub pass_next : {X : Type 0} (f : X → List ℕ) (pieces : List X) (place : ℕ) (part : Option (List ℕ)) {piece : X}
    {now whole : Option (List ℕ)}
    → place < length pieces → piece ≡ get_or pieces place piece → now ≡ past (f piece) part
    → past (flat_map f (drop place pieces)) part ≡ whole → past (flat_map f (drop (place + 1) pieces)) now ≡ whole
pass_next f pieces place part {piece} low at is before =
    ap (past (flat_map f (drop (place + 1) pieces))) is
    ∙ sym (past-append (f piece) (flat_map f (drop (place + 1) pieces)) part)
    ∙ ap (λ x. past (f x ++ flat_map f (drop (place + 1) pieces)) part) at
    ∙ ap (λ l. past (flat_map f l) part) (sym (drop_more pieces place piece low)) ∙ before

-- all are
pub passed_all : {X : Type 0} (f : X → List ℕ) (pieces : List X) (place : ℕ) (part : Option (List ℕ))
    {whole : Option (List ℕ)}
    → length pieces ≤ place → past (flat_map f (drop place pieces)) part ≡ whole → part ≡ whole
passed_all f pieces place part end before =
    sym (past-nil part) ∙ ap (λ l. past (flat_map f l) part) (sym (drop_all place pieces end)) ∙ before
