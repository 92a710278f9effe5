-- What follows from the definitions of `specs/Rows`.
use Rattle.std.proofs.Common.{zero}
use Rattle.std.specs.Prelude.{◌≡◌, ℕ, suc, ◌+◌, ◌-◌, ◌≤◌, ◌<◌, List, [], ◌∷◌, ◌++◌, length, take, drop, get_or, refl}
use Rattle.std.specs.Prelude.{sum_by, flat_map}
use Rattle.std.proofs.Common.{arith, ap, sym, ◌∙◌, length-drop}
use Rattle.std.proofs.lemmas.List.{take-append-le, drop-append-le, drop_at, take_all, length-take-le}
use Rattle.std.proofs.lemmas.List.{drop_all, drop-drop, take-append-drop}
use Rattle.std.proofs.{lemmas.List.Sums.sum_by-cons, Math.Seq.drop-append-add}
use Rattle.flat_rows.specs.Rows.{Rise, between, rows_from, start_of, raised}

-- there are as many rows as ends
pub length-rows_from : {X : Type 0} (from : ℕ) (ends : List ℕ) (items : List X)
    → length (rows_from from ends items) ≡ length ends
length-rows_from from [] items = refl
length-rows_from from (e ∷ es) items = ap suc (length-rows_from e es items)

pub start_of-cons : (from e : ℕ) (es : List ℕ) (i : ℕ) → start_of from (e ∷ es) (suc i) ≡ start_of e es i
start_of-cons from e es zero = refl
start_of-cons from e es (suc i) = refl

-- ends that rise stay between the beginning and the number of items
pub Rise-le : (from : ℕ) (ends : List ℕ) (total : ℕ) → Rise from ends total → from ≤ total
Rise-le from [] total h = omega (arith, h)
Rise-le from (e ∷ es) total h = omega (arith, h.0, Rise-le e es total h.1)

pub Rise-at : (from : ℕ) (ends : List ℕ) (total i : ℕ) → Rise from ends total → i < length ends
    → (start_of from ends i ≤ get_or ends i 0) × (get_or ends i 0 ≤ total)
Rise-at from [] total i h l = absurd (omega arith)
Rise-at from (e ∷ es) total zero h l = (h.0, Rise-le e es total h.1)
Rise-at from (e ∷ es) total (suc i) h l =
    let below : i < length es = omega arith in
    rw start_of-cons (Rise-at e es total i h.1 below)

-- the row of a number is what stands between its beginning and its end
pub row_at : {X : Type 0} (from : ℕ) (ends : List ℕ) (items : List X) (i : ℕ) → i < length ends
    → get_or (rows_from from ends items) i [] ≡ between (start_of from ends i) (get_or ends i 0) items
row_at from [] items i l = absurd (omega arith)
row_at from (e ∷ es) items zero l = refl
row_at from (e ∷ es) items (suc i) l =
    let below : i < length es = omega arith in
    row_at e es items i below ∙ ap (λ s. between s (get_or es i 0) items) (sym (start_of-cons from e es i))

-- a part that ends within a list is the same part of a longer one
pub between-append : {X : Type 0} (from to : ℕ) (items more : List X) → from ≤ to → to ≤ length items
    → between from to (items ++ more) ≡ between from to items
between-append from to items more below within =
    let start : from ≤ length items = omega arith in
    let room : to - from ≤ length (drop from items) = rw length-drop (omega arith) in
    rw (drop-append-le from items more start, take-append-le (to - from) (drop from items) more room)

pub between-rest : {X : Type 0} (items more : List X)
    → between (length items) (length items + length more) (items ++ more) ≡ more
between-rest items more =
    let rest : drop (length items) (items ++ more) ≡ more = drop_at items more (length items) refl in
    let all : take (length items + length more - length items) more ≡ more = take_all _ more (omega arith) in
    rw (rest, all) refl

pub Rise-push : (from : ℕ) (ends : List ℕ) (total more : ℕ) → Rise from ends total
    → Rise from (ends ++ (total + more) ∷ []) (total + more)
Rise-push from [] total more h = (omega (arith, h), refl)
Rise-push from (e ∷ es) total more h = (h.0, Rise-push e es total more h.1)

-- items at the end, and their end beside the ends, are one more row
pub rows_from-push : {X : Type 0} (from : ℕ) (ends : List ℕ) (items row : List X) → Rise from ends (length items)
    → rows_from from (ends ++ (length items + length row) ∷ []) (items ++ row) ≡ rows_from from ends items ++ row ∷ []
rows_from-push from [] items row h =
    ap (λ r. r ∷ []) (rw h (between-rest items row))
rows_from-push from (e ∷ es) items row h =
    rw (between-append from e items row h.0 (Rise-le e es (length items) h.1), rows_from-push e es items row h.1) refl

-- ---- the items of all rows

counted : {all part : ℕ} (rest from end : ℕ) {size : ℕ} → all ≡ part + rest → part ≡ end - from → rest + end ≡ size
    → from ≤ end
    → all + from ≡ size
counted rest from end a b c d = omega arith

-- the rows have all items together
pub items-rows_from : {X : Type 0} (from : ℕ) (ends : List ℕ) (items : List X) → Rise from ends (length items)
    → sum_by length (rows_from from ends items) + from ≡ length items
items-rows_from from [] items h = omega (arith, h)
items-rows_from from (e ∷ es) items h =
    let inside : e ≤ length items = Rise-le e es (length items) h.1 in
    let size : length (between from e items) ≡ e - from =
    length-take-le (e - from) (drop from items) (omega (arith, length-drop from items)) in
    counted (sum_by length (rows_from e es items)) from e
    (sum_by-cons length (between from e items) (rows_from e es items)) size (items-rows_from e es items h.1) h.0

-- ---- rows behind other rows

-- a part of what stands behind other items
between-behind : {X : Type 0} (items more : List X) (from to : ℕ)
    → between (length items + from) (length items + to) (items ++ more) ≡ between from to more
between-behind items more from to =
    let size : length items + to - (length items + from) ≡ to - from = omega arith in
    rw (size, drop-append-add items more from) refl

rows_from-behind : {X : Type 0} (items more : List X) (from : ℕ) (ends : List ℕ)
    → rows_from (length items + from) (raised (length items) ends) (items ++ more) ≡ rows_from from ends more
rows_from-behind items more from [] = refl
rows_from-behind items more from (e ∷ es) =
    rw (between-behind items more from e, rows_from-behind items more e es) refl

pub rows_from-append : {X : Type 0} (from : ℕ) (ends : List ℕ) (items : List X) (ends' : List ℕ) (items' : List X)
    → Rise from ends (length items)
    → rows_from from (ends ++ raised (length items) ends') (items ++ items')
    ≡ rows_from from ends items ++ rows_from 0 ends' items'
rows_from-append from [] items ends' items' h =
    let start : from ≡ length items + 0 = omega (arith, h) in
    ap (λ s. rows_from s (raised (length items) ends') (items ++ items')) start ∙ rows_from-behind items items' 0 ends'
rows_from-append from (e ∷ es) items ends' items' h =
    rw (
      between-append from e items items' h.0 (Rise-le e es (length items) h.1),
      rows_from-append e es items ends' items' h.1,
    ) refl

Rise-behind : (before from : ℕ) (ends : List ℕ) (total : ℕ) → Rise from ends total
    → Rise (before + from) (raised before ends) (before + total)
Rise-behind before from [] total h = ap (λ n. before + n) h
Rise-behind before from (e ∷ es) total h = (omega (arith, h.0), Rise-behind before e es total h.1)

pub Rise-append : (from : ℕ) (ends : List ℕ) (total : ℕ) (ends' : List ℕ) (total' : ℕ) → Rise from ends total
    → Rise 0 ends' total' → Rise from (ends ++ raised total ends') (total + total')
Rise-append from [] total ends' total' h h' =
    let start : from ≡ total + 0 = omega (arith, h) in
    rw start (Rise-behind total 0 ends' total' h')
Rise-append from (e ∷ es) total ends' total' h h' = (h.0, Rise-append e es total ends' total' h.1 h')

-- the rows one after the other are the items
pub joined-rows_from : {X : Type 0} (from : ℕ) (ends : List ℕ) (items : List X) → Rise from ends (length items)
    → flat_map (λ row. row) (rows_from from ends items) ≡ drop from items
joined-rows_from from [] items h =
    let whole : length items ≤ from = omega (arith, h) in
    sym (drop_all from items whole)
joined-rows_from from (e ∷ es) items h =
    let up_to : from + (e - from) ≡ e = omega (arith, h.0) in
    ap (λ rest. between from e items ++ rest) (joined-rows_from e es items h.1)
    ∙ ap (λ n. between from e items ++ drop n items) (sym up_to)
    ∙ ap (λ rest. between from e items ++ rest) (sym (drop-drop (e - from) from items))
    ∙ take-append-drop (e - from) (drop from items)
