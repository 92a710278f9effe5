-- Lines that are kept, and what changes them.
use Rattle.std.specs.Prelude.{if◌then◌else◌, All, Option, Result, Ok, Err, OnOk, is_err, slice_index_or}
use Rattle.std.proofs.Common.{Bool, true, false, ◌≡◌, ℕ, ◌+◌, ◌-◌, ◌<◌, ◌≤◌, List, [], ◌∷◌, ◌++◌, length, take, drop}
use Rattle.std.proofs.Common.{get_or, sym, ap, subst, true≢false}
use Rattle.std.proofs.Common.{◌∙◌, refl, arith, append_assoc, append-nil, length-append, take-append-drop, below_more}
use Rattle.std.proofs.lemmas.List.{drop-take, drop-append-le, get_or-take, get_or_append_left, get_or_push}
use Rattle.std.proofs.lemmas.List.{length-drop, length-take-le, length_push, take-append-le, take-take, take_all}
use Rattle.std.proofs.lemmas.List.{take_at, take_more}
use Rattle.std.proofs.lemmas.List.Concat.{flat_map-append}
use Rattle.std.proofs.lemmas.List.Elements.{All-drop, All-push, All-take}
use Rattle.edge_io.specs.Out.{Output, Puts}
use Rattle.edge_io.proofs.OutLemmas.{Puts-trans}
use Rattle.fault_definitions.specs.Tree.{FaultTree, IsUnitOf}
use Rattle.cut_texts.specs.{UnitTexts.spaced, UnitTexts.unit_text, declared.line.Line.Line, Lines.SameHead}
use Rattle.cut_texts.specs.{Lines.Spells, Spelling.CanSpell, declared.spelled.Spelled.Spelled}

module _ (tree : FaultTree) where
  spaced_split : (units : List ℕ) (count : ℕ)
      → spaced tree units ≡ spaced tree (take count units) ++ spaced tree (drop count units)
  spaced_split units count =
      ap (spaced tree) (sym (take-append-drop count units))
      ∙ flat_map-append (unit_text tree) (take count units) (drop count units)

  spaced_push : (units : List ℕ) (unit : ℕ)
      → spaced tree (units ++ unit ∷ []) ≡ spaced tree units ++ unit_text tree unit
  spaced_push units unit =
      flat_map-append (unit_text tree) units (unit ∷ [])
      ∙ ap (λ l. spaced tree units ++ l) (append-nil (unit_text tree unit))

  module _ {head : ℕ} {units ends text tail : List ℕ} (s : Spells tree head units ends text tail) where
    -- ---- where the names of the first units end
    pub first_end : (count : ℕ) {end : ℕ} → count ≡ 0 → end ≡ head
        → end ≡ head + length (spaced tree (take count units))
    first_end count {end} none is =
        subst (λ n. end ≡ head + length (spaced tree (take n units))) (sym none) (omega (arith, is))

    pub later_end : (count : ℕ) {end : ℕ} → 0 < count → count ≤ length units → end ≡ get_or ends (count - 1) 0
        → end ≡ head + length (spaced tree (take count units))
    later_end count some within is =
        let next : count - 1 + 1 ≡ count = omega (arith, some) in
        is ∙ s.places (count - 1) (omega (arith, some, within))
        ∙ ap (λ n. head + length (spaced tree (take n units))) next

    -- ---- only the first units are kept
    module _ (count : ℕ) {end : ℕ} (within : count ≤ length units)
        (is : end ≡ head + length (spaced tree (take count units))) where
      split : drop head text ≡ spaced tree (take count units) ++ (spaced tree (drop count units) ++ tail)
      split =
          s.spelled ∙ ap (λ l. l ++ tail) (spaced_split units count)
          ∙ append_assoc (spaced tree (take count units)) (spaced tree (drop count units)) tail

      there : drop head (take end text) ≡ spaced tree (take count units)
      there =
          ap (λ n. drop head (take n text)) is ∙ drop-take head (length (spaced tree (take count units))) text
          ∙ ap (take (length (spaced tree (take count units)))) split
          ∙ take_at (spaced tree (take count units)) (spaced tree (drop count units) ++ tail)
          (length (spaced tree (take count units))) refl

      end_within : end ≤ length text
      end_within =
          omega (
            arith,
            is,
            s.headed,
            length-drop head text,
            ap length split,
            length-append (spaced tree (take count units)) (spaced tree (drop count units) ++ tail),
          )

      pub kept : Spells tree head (take count units) (take count ends) (take end text) []
      kept = record {
        known = All-take (IsUnitOf tree) count units s.known;
        count = length-take-le count ends (omega (arith, s.count, within)) ∙ sym (length-take-le count units within);
        places = λ k short.
            let below : k < count = omega (arith, short, length-take-le count units within) in
            get_or-take count ends k 0 below ∙ s.places k (omega (arith, below, within))
            ∙ ap (λ l. head + length (spaced tree l)) (sym (take-take (k + 1) count units (omega (arith, below))));
        headed = omega (arith, length-take-le end text end_within, is);
        spelled = there ∙ sym (append-nil (spaced tree (take count units)));
      }

      pub start_kept : take head (take end text) ≡ take head text
      start_kept = take-take head end text (omega (arith, is))

    -- ---- the head changes where it stands
    pub counted : {new : List ℕ} → drop head new ≡ drop head text → length new ≡ length text
        → Spells tree head units ends new tail
    counted same long = record {
      known = s.known;
      count = s.count;
      places = s.places;
      headed = omega (arith, s.headed, long);
      spelled = same ∙ s.spelled;
    }

  module _ {head : ℕ} {units ends text : List ℕ} (s : Spells tree head units ends text []) where
    names : drop head text ≡ spaced tree units
    names = s.spelled ∙ append-nil (spaced tree units)

    -- one unit more
    module _ (unit : ℕ) {piece : List ℕ} (known : IsUnitOf tree unit) (same : piece ≡ unit_text tree unit) where
      more : drop head (text ++ piece) ≡ spaced tree (units ++ unit ∷ [])
      more =
          drop-append-le head text piece s.headed ∙ ap (λ l. l ++ piece) names ∙ ap (λ l. spaced tree units ++ l) same
          ∙ sym (spaced_push units unit)

      long : length (text ++ piece) ≡ head + length (spaced tree (units ++ unit ∷ []))
      long =
          omega (arith, s.headed, length-append text piece, length-drop head (text ++ piece), ap length more)

      pub added : (end : ℕ) → end ≡ length (text ++ piece)
          → Spells tree head (units ++ unit ∷ []) (ends ++ end ∷ []) (text ++ piece) []
      added end is =
          let P : ℕ → Type 0 = λ k. get_or (ends ++ end ∷ []) k 0
          ≡ head + length (spaced tree (take (k + 1) (units ++ unit ∷ []))) in
          let below : (k : ℕ) → k < length units → P k = λ k short.
          get_or_append_left ends (end ∷ []) 0 k (omega (arith, short, s.count)) ∙ s.places k short
          ∙ ap (λ l. head + length (spaced tree l))
          (sym (take-append-le (k + 1) units (unit ∷ []) (omega (arith, short)))) in
          let here : P (length units) =
          get_or_push ends end 0 (length units) s.count ∙ is ∙ long
          ∙ ap (λ l. head + length (spaced tree l)) (sym (take_all (length units + 1) (units ++ unit ∷ [])
          (omega (arith, length_push units unit)))) in
          record {
            known = All-push (IsUnitOf tree) units unit s.known known;
            count = omega (arith, length_push ends end, length_push units unit, s.count);
            places = λ k short. below_more P (length units) below here k (omega (arith, short, length_push units unit));
            headed = omega (arith, s.headed, length-append text piece);
            spelled = more ∙ sym (append-nil (spaced tree (units ++ unit ∷ [])));
          }

    -- a tail
    pub ended : (tail : List ℕ) → Spells tree head units ends (text ++ tail) tail
    ended tail = record {
      known = s.known;
      count = s.count;
      places = s.places;
      headed = omega (arith, s.headed, length-append text tail);
      spelled = drop-append-le head text tail s.headed ∙ ap (λ l. l ++ tail) names;
    }

    -- or want of memory for it
    pub ended_or_not : (fits : Bool) (tail : List ℕ) {new : List ℕ} → new ≡ (if fits then text ++ tail else text)
        → (rest : List ℕ) × Spells tree head units ends new rest
    ended_or_not true tail is = (tail, subst (λ l. Spells tree head units ends l tail) (sym is) (ended tail))
    ended_or_not false tail is = ([], subst (λ l. Spells tree head units ends l []) (sym is) s)

    -- the whole text
    pub whole : {start : List ℕ} (tail : List ℕ) {new : List ℕ} → take head text ≡ start → new ≡ text ++ tail
        → new ≡ start ++ (spaced tree units ++ tail)
    whole {start} tail is ends =
        ends ∙ ap (λ l. l ++ tail) (sym (take-append-drop head text) ∙ ap (λ l. l ++ drop head text) is
        ∙ ap (λ l. start ++ l) names)
        ∙ append_assoc start (spaced tree units) tail

-- ---- heads that stay

pub start_ended : (head : ℕ) (text tail : List ℕ) {new : List ℕ} (fits : Bool)
    → new ≡ (if fits then text ++ tail else text)
    → head ≤ length text → take head new ≡ take head text
start_ended head text tail true is within = ap (take head) is ∙ take-append-le head text tail within
start_ended head text tail false is within = ap (take head) is

pub SameHead-trans : {old mid new : Line} → SameHead old mid → SameHead mid new → SameHead old new
SameHead-trans {mid} {new} first second = record {
  head = second.head ∙ first.head;
  start = subst (λ n. take n new.text.items ≡ take n mid.text.items) first.head second.start ∙ first.start;
}

-- the start of a line that has a head
pub start_is : {start : List ℕ} {old new : Line} → SameHead old new → take old.head old.text.items ≡ start
    → take new.head new.text.items ≡ start
start_is {new} same is = ap (λ n. take n new.text.items) same.head ∙ same.start ∙ is

-- ---- what can be spelled

-- all units behind the first of some
pub behind_first : (units : List ℕ) (count : ℕ) → take (length units - count) (drop count units) ≡ drop count units
behind_first units count =
    take_all (length units - count) (drop count units) (omega (arith, length-drop count units))

-- they can be spelled where all can
pub spelled_behind : {names : Spelled} {units : List ℕ} (count : ℕ) → CanSpell names units
    → CanSpell names (take (length units - count) (drop count units))
spelled_behind {names} {units} count can = record {
  texts = can.texts;
  units = subst (All (IsUnitOf names.tree.now)) (sym (behind_first units count))
      (All-drop (IsUnitOf names.tree.now) count units can.units);
}

-- a line that begins as some units do, and is given the others, has all
pub all_there : {T E : Type 0} (answer : Result T E) (units now : List ℕ) {begun : List ℕ} (old : List ℕ) (count : ℕ)
    → is_err answer ≡ false → OnOk answer (now ≡ begun ++ take (length units - count) (drop count units))
    → begun ≡ take count old → take count old ≡ take count units → now ≡ units
all_there (Ok value) units now old count fine grown first same =
    grown ∙ ap (λ l. l ++ take (length units - count) (drop count units)) (first ∙ same)
    ∙ ap (λ l. take count units ++ l) (behind_first units count) ∙ take-append-drop count units
all_there (Err error) units now old count fine grown first same = absurd (true≢false fine)

-- one of them has a text
pub has_text : {names : Spelled} {units : List ℕ} (place : ℕ) {unit : ℕ} → CanSpell names units → place < length units
    → unit ≡ get_or units place unit → unit ≤ length names.texts.now
has_text {names} place {unit} can short at =
    let known : IsUnitOf names.tree.now unit = subst (IsUnitOf names.tree.now) (sym at) (can.units place unit short) in
    omega (arith, known.1, can.texts.count)

-- the name of one more unit is put
pub one_more_put : {K : Type 0} {taken : K → Option (List ℕ)} {faults : K → ℕ} {old mid new : Output K}
    {names : Spelled} {units : List ℕ} (place : ℕ) {unit : ℕ} {piece : List ℕ} → CanSpell names units
    → place < length units
    → unit ≡ get_or units place unit → piece ≡ slice_index_or names.texts.now (unit - 1) []
    → Puts taken faults old mid (spaced names.tree.now (take place units)) → Puts taken faults mid new piece
    → Puts taken faults old new (spaced names.tree.now (take (place + 1) units))
one_more_put {taken} {faults} {old} {new} {names} {units} place {unit} {piece} can short at is before put =
    let tree = names.tree.now in
    let known : IsUnitOf tree unit = subst (IsUnitOf tree) (sym at) (can.units place unit short) in
    let grown : spaced tree (take place units) ++ piece ≡ spaced tree (take (place + 1) units) =
    ap (λ l. spaced tree (take place units) ++ l) (is ∙ can.texts.each unit known)
    ∙ sym (spaced_push tree (take place units) unit)
    ∙ ap (λ u. spaced tree (take place units ++ u ∷ [])) at
    ∙ ap (spaced tree) (sym (take_more units place unit short)) in
    subst (Puts taken faults old new) grown (Puts-trans before put)
