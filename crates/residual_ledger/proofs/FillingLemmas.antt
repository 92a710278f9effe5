-- How the rows are counted, begun and filled.
use Rattle.std.proofs.Common.{◌≡◌, ◌≢◌, ℕ, zero, suc, ◌+◌, ◌-◌, ◌*◌, ◌<◌, ◌≤◌, Bool, true, false, cond, List, [], ◌∷◌}
use Rattle.std.proofs.Common.{◌++◌, length, take, drop, set, get_or, All, replicate, slice_get, Some, if◌then◌else◌}
use Rattle.std.proofs.Common.{refl, sym, ◌∙◌, ap, arith, inl, inr, append-nil, add-one, length-append}
use Rattle.std.proofs.Common.{length-drop, length-set, get_or-set_same, get_or-set_other}
use Rattle.std.proofs.lemmas.Bool.{cases_eq, cases_order}
use Rattle.std.proofs.lemmas.List.{take_more, take_all, get_or_append_left, get_or_push, get_or-take, get_or-drop}
use Rattle.std.proofs.lemmas.List.{get_or-replicate, length-replicate, ext_get_or, get_or_default, get_or_read}
use Rattle.std.proofs.lemmas.List.{length-take-le}
use Rattle.unit_sets.specs.{CutOrder.IsCutSet, CutOrder.weight_limit, Unit.most_units, UnitList.among}
use Rattle.unit_sets.specs.{UnitList.IsRising}
use Rattle.residual_ledger.specs.{Residual.cut_at, Residual.HasUnitsUpTo, Kept.IsOneMore}
use Rattle.residual_ledger.specs.Holding.{holding_below, holding, holders, start_of, between, IsFilling, HoldsFirst}
use Rattle.residual_ledger.specs.Holding.{HasSizes, HasStarts, HasRows}
use Rattle.residual_ledger.proofs.RowLemmas.{fresh_at, push-other, push-itself, among-at}
use Rattle.residual_ledger.proofs.{CutLemmas.cut_at-is, HoldingLemmas.holds}
use Rattle.residual_ledger.proofs.Passing.{passing-more, passing-none, length-passing-more, length-passing-le}
use Rattle.residual_ledger.proofs.Passing.{length-passing-one}

-- ---- where rows begin

pub start_of-suc : (size : ℕ → ℕ) (number : ℕ) → start_of size (suc number) ≡ start_of size number + size number
unfolding start_of
start_of-suc size number = refl

pub start_of-zero : (size : ℕ → ℕ) → start_of size 0 ≡ 0
unfolding start_of
start_of-zero size = refl

-- a row ends where a later one begins, or before
pub start_of-next : (size : ℕ → ℕ) (number later : ℕ) → number < later
    → start_of size number + size number ≤ start_of size later
start_of-next size number zero low = absurd (omega arith)
start_of-next size number (suc later) low =
    elim (cases_eq number later) [
      | inl same ↦ omega (arith, start_of-suc size later, ap (start_of size) same, ap size same)
      | inr apart ↦ omega (arith, start_of-suc size later, start_of-next size number later (omega arith))
    ]

pub start_of-le : (size : ℕ → ℕ) (most number : ℕ) → ((k : ℕ) → k < number → size k ≤ most)
    → start_of size number ≤ number * most
start_of-le size most zero each = omega (arith, start_of-zero size)
start_of-le size most (suc number) each =
    let low : start_of size number ≤ number * most = start_of-le size most number (λ k h. each k (omega arith)) in
    let product : suc number * most ≡ number * most + most = grind arith in
    omega (arith, start_of-suc size number, each number (omega arith))

pub start_of-same : (size size' : ℕ → ℕ) (number : ℕ) → ((k : ℕ) → k < number → size k ≡ size' k)
    → start_of size number ≡ start_of size' number
start_of-same size size' zero each = start_of-zero size ∙ sym (start_of-zero size')
start_of-same size size' (suc number) each =
    omega (
      arith,
      start_of-suc size number,
      start_of-suc size' number,
      start_of-same size size' number (λ k h. each k (omega arith)),
      each number (omega arith),
    )

-- ---- sizes become places where rows begin

pub record IsBeginning (old ends : List ℕ) (start number : ℕ) : Type 0 where
  pub so_far : start ≡ start_of (λ k. get_or old k 0) number
  pub started : (k : ℕ) → k < number → get_or ends k 0 ≡ start_of (λ n. get_or old n 0) k
  pub rest : (k : ℕ) → number ≤ k → get_or ends k 0 ≡ get_or old k 0

pub beginning-first : {old : List ℕ} → IsBeginning old old 0 0
beginning-first {old} = record {
  so_far = sym (start_of-zero (λ k. get_or old k 0));
  started = λ k h. absurd (omega arith);
  rest = λ k h. refl;
}

pub beginning-more : {old ends : List ℕ} {start number : ℕ} → number < length ends → IsBeginning old ends start number
    → IsBeginning old (set ends number start) (start + get_or ends number 0) (number + 1)
beginning-more {old} {ends} {start} {number} short was =
    let next : start_of (λ k. get_or old k 0) (number + 1)
    ≡ start_of (λ k. get_or old k 0) number + get_or old number 0 =
    ap (start_of (λ k. get_or old k 0)) (add-one number) ∙ start_of-suc (λ k. get_or old k 0) number in
    record {
      so_far = omega (arith, was.so_far, was.rest number (omega arith));
      started = λ k h. elim (cases_eq k number) [
        | inl same ↦ rw same (get_or-set_same ends number start 0 short ∙ was.so_far)
        | inr apart ↦ get_or-set_other ends number k start 0 apart ∙ was.started k (omega arith)
      ];
      rest = λ k h. get_or-set_other ends number k start 0 (λ e. absurd (omega arith)) ∙ was.rest k (omega arith);
    }

pub beginning-room : {old ends : List ℕ} {start number : ℕ} → number < length old → length old ≤ most_units + 1
    → All (λ size. size ≤ weight_limit) old → IsBeginning old ends start number
    → start + get_or ends number 0 ≤ (most_units + 1) * weight_limit
beginning-room {old} {number} short few small was =
    let low : start_of (λ k. get_or old k 0) number ≤ number * weight_limit =
    start_of-le (λ k. get_or old k 0) weight_limit number (λ k h. small k 0 (omega arith)) in
    omega (arith, was.so_far, was.rest number (omega arith), small number 0 short)

-- ---- one number more in a row

pub slot_below : {size : ℕ → ℕ} {held : ℕ → List ℕ} {ends rows : List ℕ} (number : ℕ) → IsFilling size held ends rows
    → number < length ends → length (held number) < size number → get_or ends number 0 < length rows
slot_below {size} {ends} number was short room =
    omega (arith, was.room, was.placed number short, start_of-next size number (length ends) short)

-- the slot of one row is not in the filled part of another
slot_apart : (size : ℕ → ℕ) {number other : ℕ} (k used : ℕ) → other ≢ number → used < size number → k < size other
    → start_of size other + k ≢ start_of size number + used
slot_apart size {number} {other} k used apart room short = elim (cases_order other number) [
  | inl same ↦ absurd (apart same)
  | inr order ↦ elim order [
    | inl below ↦ λ e. absurd (omega (arith, e, start_of-next size other number below))
    | inr above ↦ λ e. absurd (omega (arith, e, start_of-next size number other above))
  ]
]

pub filled : {size : ℕ → ℕ} {held held' : ℕ → List ℕ} {ends rows : List ℕ} (number place : ℕ)
    → IsFilling size held ends rows → number < length ends → length (held number) < size number
    → held' number ≡ held number ++ place ∷ [] → ((other : ℕ) → other ≢ number → held' other ≡ held other)
    → IsFilling size held' (set ends number (get_or ends number 0 + 1)) (set rows (get_or ends number 0) place)
filled {size} {held} {held'} {ends} {rows} number place was short room new old =
    let slot : ℕ = get_or ends number 0 in
    let longer : length (held' number) ≡ length (held number) + 1 =
    ap length new ∙ length-append (held number) (place ∷ []) in
    let inside : slot < length rows = slot_below number was short room in
    let at : slot ≡ start_of size number + length (held number) = was.placed number short in
    let below : (k : ℕ) → k < length (set ends number (slot + 1)) → k < length ends =
    λ k h. omega (arith, h, length-set ends number (slot + 1)) in
    record {
      room = length-set rows slot place ∙ was.room ∙ ap (start_of size) (sym (length-set ends number (slot + 1)));
      fits = λ other h. elim (cases_eq other number) [
        | inl same ↦ rw same (omega arith)
        | inr apart ↦ omega (arith, ap length (old other apart), was.fits other (below other h))
      ];
      placed = λ other h. elim (cases_eq other number) [
        | inl same ↦ rw (same, get_or-set_same ends number (slot + 1) 0 short) (omega arith)
        | inr apart ↦ omega (
          arith,
          get_or-set_other ends number other (slot + 1) 0 apart,
          was.placed other (below other h),
          ap length (old other apart),
        )
      ];
      has = λ other k h within. elim (cases_eq other number) [
        | inl same ↦
            let short_k : k < length (held number) + 1 = omega (arith, within, ap (λ n. length (held' n)) same) in
            rw (same, new) (elim (cases_eq k (length (held number))) [
              | inl last ↦
                  let index : start_of size number + k ≡ slot = omega arith in
                  rw (index, get_or-set_same rows slot place 0 inside)
                  (sym (get_or_push (held number) place 0 k (sym last)))
              | inr earlier ↦
                  let before : k < length (held number) = omega arith in
                  let far : start_of size number + k ≢ slot = λ e. absurd (omega (arith, e)) in
                  get_or-set_other rows slot (start_of size number + k) place 0 far ∙ was.has number k short before
                  ∙ sym (get_or_append_left (held number) (place ∷ []) 0 k before)
            ])
        | inr apart ↦
            let before : k < length (held other) = omega (arith, within, ap length (old other apart)) in
            let low : k < size other = omega (arith, was.fits other (below other h)) in
            let far : start_of size other + k ≢ slot =
            λ e. slot_apart size k (length (held number)) apart room low (e ∙ at) in
            get_or-set_other rows slot (start_of size other + k) place 0 far ∙ was.has other k (below other h) before
            ∙ ap (λ xs. get_or xs k 0) (sym (old other apart))
      ];
    }

pub filling-along : {size : ℕ → ℕ} {held held' : ℕ → List ℕ} {ends rows : List ℕ}
    → ((number : ℕ) → held' number ≡ held number) → IsFilling size held ends rows → IsFilling size held' ends rows
filling-along same was = record {
  room = was.room;
  fits = λ number h. omega (arith, ap length (same number), was.fits number h);
  placed = λ number h. omega (arith, ap length (same number), was.placed number h);
  has =
      λ number k h within. was.has number k h (omega (arith, within, ap length (same number)))
      ∙ ap (λ xs. get_or xs k 0) (sym (same number));
}

-- ---- the members of one cut set, one after another

-- what the row of a unit holds when some members of the cut set at a place have got it
abbrev pub held_with : List (List ℕ) → ℕ → List ℕ → ℕ → List ℕ
held_with cuts place some unit = holding_below cuts unit place ++ (if among some unit then place ∷ [] else [])

abbrev pub IsPutting : List (List ℕ) → ℕ → List ℕ → List ℕ → List ℕ → Type 0
IsPutting cuts place some ends rows = IsFilling (holders cuts) (held_with cuts place some) ends rows

with_none : (cuts : List (List ℕ)) (place : ℕ) (some : List ℕ) (unit : ℕ) → among some unit ≡ false
    → held_with cuts place some unit ≡ holding_below cuts unit place
with_none cuts place some unit none = rw none (append-nil (holding_below cuts unit place))

pub putting-all : (cuts : List (List ℕ)) (place : ℕ) {ends rows : List ℕ}
    → IsPutting cuts place (cut_at cuts place) ends rows → HoldsFirst cuts (place + 1) ends rows
putting-all cuts place has =
    filling-along (λ unit. ap (holding_below cuts unit) (add-one place) ∙ passing-more (holds cuts unit) place) has

-- whose turn it is among the members of the cut set at a place
pub record IsTurn (cuts : List (List ℕ)) (place i number : ℕ) : Type 0 where
  pub below : place < length cuts
  pub rising : IsRising (cut_at cuts place)
  pub there : i < length (cut_at cuts place)
  pub at : number ≡ get_or (cut_at cuts place) i 0

module _ (cuts : List (List ℕ)) {place i number : ℕ} (t : IsTurn cuts place i number) where
  abbrev cut : List ℕ
  cut = cut_at cuts place

  pub turn-known : (size : ℕ) → All (λ unit. unit < size) cut → number < size
  turn-known size known = omega (arith, t.at, known i 0 t.there)

  -- the unit's row has only what it had before the cut set
  turn-fresh : held_with cuts place (take i cut) number ≡ holding_below cuts number place
  turn-fresh = with_none cuts place (take i cut) number (rw t.at (fresh_at cut i t.rising t.there))

  -- and so it has room
  turn-room : length (held_with cuts place (take i cut) number) < holders cuts number
  turn-room =
      omega (
        arith,
        ap length turn-fresh,
        length-passing-one (holds cuts number) place (length cuts) t.below (rw t.at (among-at cut i 0 t.there)),
      )

  pub turn-slot : {ends rows : List ℕ} → All (λ unit. unit < length ends) cut
      → IsPutting cuts place (take i cut) ends rows → get_or ends number 0 < length rows
  turn-slot {ends} known was = slot_below number was (turn-known (length ends) known) turn-room

  pub turn-more : {ends rows : List ℕ} → All (λ unit. unit < length ends) cut
      → IsPutting cuts place (take i cut) ends rows
      → IsPutting cuts place (take (i + 1) cut) (set ends number (get_or ends number 0 + 1))
      (set rows (get_or ends number 0) place)
  turn-more {ends} known was =
      let more : take (i + 1) cut ≡ take i cut ++ number ∷ [] = rw (t.at, take_more cut i 0 t.there) refl in
      filled number place was (turn-known (length ends) known) turn-room
      (rw (turn-fresh, more, push-itself (take i cut) number))
      (λ other apart. ap (λ (b : Bool). holding_below cuts other place ++ (if b then place ∷ [] else []))
      (ap (λ xs. among xs other) more ∙ push-other (take i cut) apart))

-- ---- how many sets hold each number

pub record IsCountingFor (units : ℕ) (cuts : List (List ℕ)) (count : ℕ) (sizes : List ℕ) : Type 0 where
  pub long : length sizes ≡ units + 1
  pub each : (unit : ℕ) → unit < length sizes → get_or sizes unit 0 ≡ length (holding_below cuts unit count)

pub counting-first : (units : ℕ) (cuts : List (List ℕ)) → IsCountingFor units cuts 0 (replicate (units + 1) 0)
counting-first units cuts = record {
  long = length-replicate (units + 1) 0;
  each =
      λ unit h. get_or-replicate (units + 1) unit 0 0 (omega (arith, h, length-replicate {A = ℕ} (units + 1) 0))
      ∙ sym (ap length (passing-none (holds cuts unit)));
}

one_or_none : (has : Bool) {old new before after : ℕ} → after ≡ before + cond has 1 0 → (has ≡ true → new ≡ suc old)
    → (has ≡ false → new ≡ old) → old ≡ before → new ≡ after
one_or_none true {old} {new} next more same is = let up : new ≡ suc old = more refl in omega arith
one_or_none false {old} {new} next more same is = let kept : new ≡ old = same refl in omega arith

-- one cut set more is counted, at the places of its members
pub counting-more : {units : ℕ} (cuts : List (List ℕ)) {place : ℕ} {cut sizes new : List ℕ}
    → cut_at cuts place ≡ cut → IsOneMore cut sizes new → IsCountingFor units cuts place sizes
    → IsCountingFor units cuts (place + 1) new
counting-more cuts {place} {cut} {sizes} at more was = record {
  long = sym more.long ∙ was.long;
  each = λ unit h.
      let inside : unit < length sizes = omega (arith, h, more.long) in
      let next : length (holding_below cuts unit (place + 1))
      ≡ length (holding_below cuts unit place) + cond (among cut unit) 1 0 =
      rw (add-one place, ← at) (length-passing-more (holds cuts unit) place) in
      one_or_none (among cut unit) next (more.more unit) (more.same unit) (was.each unit inside);
}

-- no number is held by more sets than there are so far
pub counting-le : {units : ℕ} (cuts : List (List ℕ)) {count : ℕ} (most : ℕ) {sizes : List ℕ} → count ≤ most
    → IsCountingFor units cuts count sizes → All (λ size. size ≤ most) sizes
counting-le cuts {count} most {sizes} few was k d short =
    omega (
      arith,
      get_or_default sizes k d 0 short,
      was.each k short,
      length-passing-le (holds cuts k) count,
    )

pub sizes-le : {units : ℕ} (most : ℕ) (cuts : List (List ℕ)) {sizes : List ℕ} → length cuts ≤ most
    → HasSizes units cuts sizes → All (λ size. size ≤ most) sizes
sizes-le {units} most cuts {sizes} few has =
    let counting : IsCountingFor units cuts (length cuts) sizes = record { long = has.all; each = has.each } in
    counting-le cuts most few counting

-- ---- from first to last

-- rows that have only begun
pub begun : {units : ℕ} (cuts : List (List ℕ)) {sizes : List ℕ} (ends rows : List ℕ) → HasSizes units cuts sizes
    → length ends ≡ length sizes → HasStarts (λ k. get_or sizes k 0) ends
    → length rows ≡ start_of (λ k. get_or sizes k 0) (length sizes)
    → HoldsFirst cuts 0 ends rows
begun cuts {sizes} ends rows has long starts room =
    let none : (unit : ℕ) → length (holding_below cuts unit 0) ≡ 0 =
    λ unit. ap length (passing-none (holds cuts unit)) in
    record {
      room =
          room ∙ start_of-same (λ k. get_or sizes k 0) (holders cuts) (length sizes) has.each
          ∙ ap (start_of (holders cuts)) (sym long);
      fits = λ number h. omega (arith, none number);
      placed = λ number h.
          let same : start_of (λ k. get_or sizes k 0) number ≡ start_of (holders cuts) number =
          start_of-same (λ k. get_or sizes k 0) (holders cuts) number (λ k below. has.each k (omega arith)) in
          omega (arith, starts number h, same, none number);
      has = λ number k h within. absurd (omega (arith, within, none number));
    }

row_is : (cuts : List (List ℕ)) {ends rows : List ℕ} (unit : ℕ) {from to : ℕ} → unit < length ends
    → from ≡ start_of (holders cuts) unit → to ≡ start_of (holders cuts) unit + holders cuts unit → to ≤ length rows
    → HoldsFirst cuts (length cuts) ends rows → between from to rows ≡ holding cuts unit
row_is cuts {rows} unit {from} {to} short begins ends_at inside has =
    let size : to - from ≡ holders cuts unit = omega arith in
    let long : length (between from to rows) ≡ to - from =
    length-take-le (to - from) (drop from rows) (omega (arith, length-drop from rows)) in
    ext_get_or 0 (between from to rows) (holding cuts unit) (long ∙ size)
    (λ k h.
    let within : k < to - from = omega (arith, h, long) in
    get_or-take (to - from) (drop from rows) k 0 within ∙ get_or-drop from rows k 0
    ∙ ap (λ n. get_or rows (n + k) 0) begins ∙ has.has unit k short (omega arith))

-- rows that are filled
pub all_filled : {units : ℕ} (cuts : List (List ℕ)) {ends rows : List ℕ} → length ends ≡ units + 1
    → HoldsFirst cuts (length cuts) ends rows → HasRows units cuts ends rows
all_filled cuts {ends} {rows} long has = record {
  all = long;
  row = λ unit some up_to.
      let there : unit < length ends = omega arith in
      let earlier : unit - 1 < length ends = omega arith in
      let next : suc (unit - 1) ≡ unit = omega arith in
      let from : get_or ends (unit - 1) 0 ≡ start_of (holders cuts) unit =
      has.placed (unit - 1) earlier ∙ sym (start_of-suc (holders cuts) (unit - 1))
      ∙ ap (start_of (holders cuts)) next in
      let to : get_or ends unit 0 ≡ start_of (holders cuts) unit + holders cuts unit = has.placed unit there in
      let inside : get_or ends unit 0 ≤ length rows =
      omega (arith, to, has.room, start_of-next (holders cuts) unit (length ends) there) in
      record {
        order = omega (arith, from, to);
        inside = inside;
        is = row_is cuts unit there from to inside has;
      };
}

pub all_counted : (units : ℕ) (cuts : List (List ℕ)) (count : ℕ) (sizes : List ℕ) → count ≡ length cuts
    → IsCountingFor units cuts count sizes → HasSizes units cuts sizes
all_counted units cuts count sizes full has = record {
  all = has.long;
  each = λ unit h. has.each unit h ∙ ap (λ n. length (holding_below cuts unit n)) full;
}

-- each member of a cut set has a row
pub known_members : (units : ℕ) (cuts : List (List ℕ)) (place : ℕ) {cut : List ℕ} (sizes : List ℕ)
    → HasUnitsUpTo units cuts
    → place < length cuts → cut_at cuts place ≡ cut → length sizes ≡ units + 1 → All (λ unit. unit < length sizes) cut
known_members units cuts place sizes known short at long k d inside =
    let there : k < length (cut_at cuts place) = omega (arith, inside, ap length at) in
    omega (arith, known place [] short k d there, ap (λ xs. get_or xs k d) at)

pub turn : (cuts : List (List ℕ)) {place : ℕ} {members : List ℕ} {i item number : ℕ} → place < length cuts
    → IsCutSet members → slice_get cuts place ≡ Some members → i < length members → item ≡ get_or members i item
    → number ≡ item → IsTurn cuts place i number
turn cuts {place} {members} {i} {item} below cut at short is same =
    let whole : cut_at cuts place ≡ members = cut_at-is cuts place members at in
    record {
      below = below;
      rising = rw whole cut.rising;
      there = omega (arith, ap length whole);
      at = same ∙ get_or_read members i item short is 0 ∙ ap (λ (xs : List ℕ). get_or xs i 0) (sym whole);
    }

pub turn-last : (cuts : List (List ℕ)) (place i : ℕ) (members : List ℕ) {ends rows : List ℕ}
    → slice_get cuts place ≡ Some members
    → length members ≤ i → IsPutting cuts place (take i (cut_at cuts place)) ends rows
    → HoldsFirst cuts (place + 1) ends rows
turn-last cuts place i members {ends} {rows} at past was =
    let all : take i (cut_at cuts place) ≡ cut_at cuts place =
    take_all i (cut_at cuts place) (omega (arith, ap length (cut_at-is cuts place members at))) in
    putting-all cuts place (rw all at was)
