-- Sets that are dealt to workers, and gathered again.
use Rattle.std.proofs.Common.{◌≡◌, ℕ, zero, suc, ◌+◌, ◌-◌, ◌*◌, ◌/◌, ◌%◌, ◌<◌, ◌≤◌, List, [], ◌∷◌, ◌++◌, length, get_or}
use Rattle.std.proofs.Common.{take, drop, All, Option, None, replicate, refl, ap, sym, subst, ◌∙◌}
use Rattle.std.proofs.Common.{arith, add-one}
use Rattle.std.proofs.{Math.Nat.div-add-mod, Math.Nat.mod-lt, lemmas.List.Sums.sum_by_more}
use Rattle.std.specs.List.{sum_by}
use Rattle.std.proofs.lemmas.List.{drop_more, drop-drop, take_more, take_all, get_or_read}
use Rattle.cut_sequences.specs.Orders.{order_count, order_total}
use Rattle.cut_sequences.specs.Dealing.{dealt, Share, AreShares, list_in, gathered}

-- ---- the places of what a worker gets

pub get_or-dealt : {X : Type 0} (waits others k : ℕ) (items : List X) (d : X)
    → get_or (dealt waits others items) k d ≡ get_or items (waits + k * suc others) d
get_or-dealt waits others k [] d = refl
get_or-dealt zero others zero (item ∷ items) d =
    let place : zero ≡ zero + zero * suc others = omega arith in
    ap (λ n. get_or (item ∷ items) n d) place
get_or-dealt zero others (suc k) (item ∷ items) d =
    let place : zero + suc k * suc others ≡ suc (others + k * suc others) = omega arith in
    get_or-dealt others others k items d ∙ ap (λ n. get_or (item ∷ items) n d) (sym place)
get_or-dealt (suc waits) others k (item ∷ items) d =
    let place : suc waits + k * suc others ≡ suc (waits + k * suc others) = omega arith in
    get_or-dealt waits others k items d ∙ ap (λ n. get_or (item ∷ items) n d) (sym place)

place_again : (i workers : ℕ) → 0 < workers → i % workers + (i / workers) * suc (workers - 1) ≡ i
place_again i workers some =
    let same : suc (workers - 1) ≡ workers = omega arith in
    rw same (omega (arith, div-add-mod i workers))

-- ---- what a worker gets, set by set

pub dealt-drop : {X : Type 0} (waits others : ℕ) (items : List X)
    → dealt 0 others (drop waits items) ≡ dealt waits others items
dealt-drop zero others items = refl
dealt-drop (suc waits) others [] = refl
dealt-drop (suc waits) others (item ∷ items) = dealt-drop waits others items

pub dealt-next : {X : Type 0} (next others : ℕ) (items : List X) (d : X) → next < length items
    → dealt 0 others (drop next items) ≡ get_or items next d ∷ dealt 0 others (drop (next + suc others) items)
dealt-next next others items d short =
    let later : next + 1 + others ≡ next + suc others = omega arith in
    ap (dealt 0 others) (drop_more items next d short)
    ∙ ap (λ rest. get_or items next d ∷ rest) (sym (dealt-drop others others (drop (next + 1) items))
    ∙ ap (dealt 0 others) (drop-drop others (next + 1) items ∙ ap (λ n. drop n items) later))

pub dealt-le : (waits others : ℕ) (lists : Share) → order_total (dealt waits others lists) ≤ order_total lists
dealt-le waits others [] = omega arith
dealt-le zero others (list ∷ lists) = omega (arith, dealt-le others others lists)
dealt-le (suc waits) others (list ∷ lists) = omega (arith, dealt-le waits others lists)

-- ---- sets at the end that are not listed

get_or-padded : (share : Share) (rest k : ℕ) → get_or (share ++ replicate rest None) k None ≡ get_or share k None
get_or-padded [] zero k = refl
get_or-padded [] (suc rest) zero = refl
get_or-padded [] (suc rest) (suc k) = get_or-padded [] rest k
get_or-padded (list ∷ share) rest zero = refl
get_or-padded (list ∷ share) rest (suc k) = get_or-padded share rest k

order_total-padded : (share : Share) (rest : ℕ) → order_total (share ++ replicate rest None) ≡ order_total share
order_total-padded [] zero = refl
order_total-padded [] (suc rest) = omega (arith, order_total-padded [] rest)
order_total-padded (list ∷ share) rest = ap (λ n. order_count list + n) (order_total-padded share rest)

-- of sets that are not listed such ones are dealt
pub dealt-none : (waits others : ℕ) (lists : Share) → All (λ list. list ≡ None) lists
    → (rest : ℕ) × (dealt waits others lists ≡ replicate rest None)
dealt-none waits others [] none = (0, refl)
dealt-none zero others (list ∷ lists) none =
    let later = dealt-none others others lists (λ k d short. none (suc k) d (omega arith)) in (
      suc later.0,
      ap (λ (o : Option (List (List ℕ))). o ∷ dealt others others lists) (none 0 list (omega arith))
          ∙ ap (λ (l : Share). None ∷ l) later.1,
    )
dealt-none (suc waits) others (list ∷ lists) none =
    dealt-none waits others lists (λ k d short. none (suc k) d (omega arith))

-- ---- all sets together

pub list_in-is : {lists : Share} {shares : List Share} → AreShares lists shares → (i : ℕ)
    → list_in shares i ≡ get_or lists i None
list_in-is {lists} {shares} are i =
    let within : i % length shares < length shares = mod-lt i are.some in
    let share = are.each (i % length shares) within in
    sym (get_or-padded (get_or shares (i % length shares) []) share.0 (i / length shares))
    ∙ ap (λ (s : Share). get_or s (i / length shares) None) share.1
    ∙ get_or-dealt (i % length shares) (length shares - 1) (i / length shares) lists None
    ∙ ap (λ n. get_or lists n None) (place_again i (length shares) are.some)

gathered-take : {lists : Share} {shares : List Share} → AreShares lists shares → (sets : ℕ) → sets ≤ length lists
    → gathered sets shares ≡ take sets lists
gathered-take are zero short = refl
gathered-take {lists} {shares} are (suc sets) short =
    let below : sets < length lists = omega arith in
    ap (λ (l : Share). l ++ list_in shares sets ∷ []) (gathered-take are sets (omega arith))
    ∙ ap (λ (o : Option (List (List ℕ))). take sets lists ++ o ∷ []) (list_in-is are sets)
    ∙ sym (take_more lists sets None below) ∙ ap (λ n. take n lists) (add-one sets)

pub gathered-is : {lists : Share} {shares : List Share} {sets : ℕ} → AreShares lists shares → sets ≡ length lists
    → gathered sets shares ≡ lists
gathered-is {lists} {sets} are all = gathered-take are sets (omega arith) ∙ take_all sets lists (omega arith)

pub length-gathered : (sets : ℕ) (shares : List Share) → length (gathered sets shares) ≡ sets
length-gathered zero shares = refl
length-gathered (suc sets) shares =
    omega (arith, length_push-is (gathered sets shares) (list_in shares sets), length-gathered sets shares)
  where
    length_push-is : (xs : Share) (x : Option (List (List ℕ))) → length (xs ++ x ∷ []) ≡ length xs + 1
    length_push-is [] x = refl
    length_push-is (y ∷ xs) x = omega (arith, length_push-is xs x)

-- ---- the numbers of orders

-- the numbers of orders of the first workers together
abbrev pub dealt_total : ℕ → ℕ → Share → ℕ
dealt_total zero others lists = 0
dealt_total (suc n) others lists = dealt_total n others lists + order_total (dealt n others lists)

dealt_total-nil : (n others : ℕ) → dealt_total n others [] ≡ 0
dealt_total-nil zero others = refl
dealt_total-nil (suc n) others = omega (arith, dealt_total-nil n others)

dealt_total-cons : (n others : ℕ) (list : Option (List (List ℕ))) (lists : Share)
    → dealt_total (suc n) others (list ∷ lists) ≡ order_count list + order_total (dealt others others lists)
    + dealt_total n others lists
dealt_total-cons zero others list lists = omega arith
dealt_total-cons (suc n) others list lists = omega (arith, dealt_total-cons n others list lists)

pub dealt_total-all : (others : ℕ) (lists : Share) → dealt_total (suc others) others lists ≡ order_total lists
dealt_total-all others [] = dealt_total-nil (suc others) others
dealt_total-all others (list ∷ lists) =
    omega (arith, dealt_total-cons others others list lists, dealt_total-all others lists)

shares_total : {lists : Share} {shares : List Share} → AreShares lists shares → (n : ℕ) → n ≤ length shares
    → sum_by order_total (take n shares) ≡ dealt_total n (length shares - 1) lists
shares_total are zero short = refl
shares_total {shares} are (suc n) short =
    let below : n < length shares = omega arith in
    ap (λ m. sum_by order_total (take m shares)) (sym (add-one n))
    ∙ sum_by_more order_total shares n [] below
    ∙ omega (
      arith,
      shares_total are n (omega arith),
      order_total-padded (get_or shares n []) (are.each n below).0,
      ap order_total (are.each n below).1,
    )

-- the shares have as many orders as all lists together
pub total_of_shares : {lists : Share} {shares : List Share} → AreShares lists shares
    → sum_by order_total shares ≡ order_total lists
total_of_shares {lists} {shares} are =
    let all : length shares ≡ suc (length shares - 1) = let some : 0 < length shares = are.some in omega arith in
    ap (sum_by order_total) (sym (take_all (length shares) shares (omega arith)))
    ∙ shares_total are (length shares) (omega arith)
    ∙ ap (λ n. dealt_total n (length shares - 1) lists) all
    ∙ dealt_total-all (length shares - 1) lists

-- ---- a set's list in its share

pub share_at : {lists : Share} (sets : ℕ) {shares : List Share} (i workers : ℕ) {share : Share}
    → AreShares (gathered sets shares) shares → gathered sets shares ≡ lists → workers ≡ length shares
    → share ≡ get_or shares (i % workers) share → get_or share (i / workers) None ≡ get_or lists i None
share_at {lists} sets {shares} i workers {share} are view all here =
    let whole : AreShares lists shares = subst (λ (l : Share). AreShares l shares) view are in
    let within : i % length shares < length shares = mod-lt i whole.some in
    let at : share ≡ get_or shares (i % length shares) [] =
    get_or_read shares (i % length shares) share within
    (subst (λ n. share ≡ get_or shares (i % n) share) all here) [] in
    ap (λ (s : Share). get_or s (i / workers) None) at
    ∙ ap (λ n. get_or (get_or shares (i % length shares) []) (i / n) None) all ∙ list_in-is whole i
