-- Names by reference, and the names themselves.
use Rattle.std.proofs.Common.{◌≡◌, ℕ, zero, suc, cond, true, false, List, [], ◌∷◌, map, length, get_or, not, ◌+◌, ◌<◌}
use Rattle.std.proofs.Common.{refl, sym, ap, ◌∙◌, arith}
use Rattle.std.specs.Prelude.{◌||◌, nat_lt, position, Option, None, Some, slice_get}
use Rattle.std.specs.List.{list_any, position_or_len, AllByRecursion, IsDistinct}
use Rattle.std.specs.Borrow.{Bor}
use Rattle.std.proofs.lemmas.Bool.{cond-true, false_from_ne_true, lt-ltb}
use Rattle.std.proofs.lemmas.List.{get_or-map, length-map}
use Rattle.std.proofs.lemmas.Option.{get_or_from_slice_get, slice_get_within}
use lib.Pointwise.{bytes_decides}
use Rattle.fault_words.specs.Names.{same_name, has_name, number_at, number_in}

abbrev pub behind : List (Bor (List ℕ)) → List (List ℕ)
behind keys = map (λ (key : Bor (List ℕ)). key.now) keys

pub has-behind : (name : List ℕ) (keys : List (Bor (List ℕ)))
    → list_any (λ (key : Bor (List ℕ)). same_name name key.now) keys ≡ has_name (behind keys) name
has-behind name [] = refl
has-behind name (key ∷ keys) = ap (λ b. same_name name key.now || b) (has-behind name keys)

position_or_len-behind : (name : List ℕ) (keys : List (Bor (List ℕ)))
    → position_or_len (λ (key : Bor (List ℕ)). same_name name key.now) keys
    ≡ position_or_len (same_name name) (behind keys)
position_or_len-behind name [] = refl
position_or_len-behind name (key ∷ keys) =
    ap (λ r. cond (not (same_name name key.now)) (1 + r) 0) (position_or_len-behind name keys)

position-behind : (name : List ℕ) (keys : List (Bor (List ℕ)))
    → position (λ (key : Bor (List ℕ)). same_name name key.now) keys ≡ position (same_name name) (behind keys)
position-behind name keys =
    let place = position_or_len-behind name keys in
    let whole : length (behind keys) ≡ length keys = length-map keys (λ (key : Bor (List ℕ)). key.now) in
    rw (place, whole) refl

-- the place of a name by reference gives the number of the name
pub number_found : (keys : List (Bor (List ℕ))) {name bytes : List ℕ} {found : Option ℕ} → bytes ≡ name
    → found ≡ position (λ (key : Bor (List ℕ)). same_name bytes key.now) keys
    → number_at found ≡ number_in (behind keys) name
number_found keys {bytes} same is =
    ap number_at (is ∙ (position-behind bytes keys ∙ ap (λ b. position (same_name b) (behind keys)) same))

-- the name at a place, by reference and itself
pub name_there : (keys : List (Bor (List ℕ))) (place : ℕ) (key : Bor (List ℕ)) → slice_get keys place ≡ Some key
    → get_or (behind keys) place [] ≡ key.now
name_there keys place key there =
    get_or-map (λ (other : Bor (List ℕ)). other.now) keys place key [] (slice_get_within keys place key there)
    ∙ ap (λ (other : Bor (List ℕ)). other.now) (get_or_from_slice_get keys place key key there)

apart_at : (key : Bor (List ℕ)) (keys : List (Bor (List ℕ))) {name : List ℕ} (place : ℕ)
    → AllByRecursion (λ (other : Bor (List ℕ)). same_name key.now other.now ≡ false) keys → place < length keys
    → get_or (behind keys) place [] ≡ name → same_name key.now name ≡ false
apart_at key [] place apart short is = absurd (omega arith)
apart_at key (other ∷ keys) zero apart short is = ap (same_name key.now) (sym is) ∙ apart.0
apart_at key (other ∷ keys) (suc place) apart short is = apart_at key keys place apart.1 (omega arith) is

-- where no two are equal, a name is found at the place where it stands
place_found : (keys : List (Bor (List ℕ))) {name : List ℕ} (place : ℕ)
    → IsDistinct (λ (key other : Bor (List ℕ)). same_name key.now other.now) keys → place < length keys
    → get_or (behind keys) place [] ≡ name
    → position_or_len (λ (key : Bor (List ℕ)). same_name name key.now) keys ≡ place
unfolding IsDistinct
place_found [] place apart short is = absurd (omega arith)
place_found (key ∷ keys) {name} zero apart short is =
    ap (λ b. cond (not b) (1 + position_or_len (λ (other : Bor (List ℕ)). same_name name other.now) keys) 0)
    ((bytes_decides name key.now).1 (sym is))
place_found (key ∷ keys) {name} (suc place) apart short is =
    let rest = place_found keys place apart.1 (omega arith) is in
    let apart_here = apart_at key keys place apart.0 (omega arith) is in
    let other : same_name name key.now ≡ false =
    false_from_ne_true (same_name name key.now) (λ same. (let turned : same_name key.now name ≡ true =
    (bytes_decides key.now name).1 (sym ((bytes_decides name key.now).0 same)) in cc)) in
    let whole =
    ap (λ b. cond (not b) (1 + position_or_len (λ (o : Bor (List ℕ)). same_name name o.now) keys) 0) other in
    omega (arith, whole, rest)

-- and so its number is known
pub number_there : (keys : List (Bor (List ℕ))) {name : List ℕ} (place : ℕ)
    → IsDistinct (λ (key other : Bor (List ℕ)). same_name key.now other.now) keys → place < length (behind keys)
    → get_or (behind keys) place [] ≡ name → number_in (behind keys) name ≡ place + 1
number_there keys {name} place apart short is =
    let few = length-map keys (λ (key : Bor (List ℕ)). key.now) in
    let at = place_found keys place apart (omega (arith, few, short)) is in
    ap number_at
    (sym (position-behind name keys) ∙ ap (λ n. cond (nat_lt n (length keys)) (Some n) None) at
    ∙ cond-true (nat_lt place (length keys)) (Some place) None (lt-ltb place (length keys) (omega (arith, few, short))))
    ∙ (let next : suc place ≡ place + 1 = omega arith in next)
