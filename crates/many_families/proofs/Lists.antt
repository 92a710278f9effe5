-- The families of a list of references stay, and are taken apart as the list is.
use Rattle.std.proofs.Common.{◌≡◌, ℕ, ◌+◌, ◌<◌, List, [], ◌∷◌, ◌++◌, All, take, drop, get_or, length, nat_lt}
use Rattle.std.proofs.Common.{if◌then◌else◌, refl, sym, ◌∙◌, ap, subst, arith}
use Rattle.std.proofs.lemmas.Bool.{cond-true, lt-ltb}
use Rattle.std.proofs.lemmas.List.{take_more, take-append-drop, get_or-map, length-map}
use Rattle.std.proofs.lemmas.List.Elements.{All-head, All-tail}
use Rattle.zdd_families.specs.Least.{IsLeastOfAll, IsLeastProductOfAll, IsLeastProduct}
use Rattle.zdd_families.proofs.Many.{least_of_none, least_of_one, product_of_none, product_of_more}
use Rattle.zdd_families.proofs.MapLemmas.{family-empty, family-unit}
use Rattle.family_memory.specs.Memory.{Held, Has, IsSound, Went, Gave, family_in, map_of}
use Rattle.family_memory.proofs.After.{Gave-there, still, still_has}
use Rattle.many_families.specs.Lists.{families}

pub families_stay : {before after : Held} (list : List ℕ) → IsSound before → Went before after → All (Has before) list
    → families after list ≡ families before list
families_stay [] sound went has = refl
families_stay {before} {after} (r ∷ list) sound went has =
    ap (λ f. f ∷ families after list) (still sound went r (All-head (Has before) r list has))
    ∙ ap (λ fs. family_in before r ∷ fs) (families_stay list sound went (All-tail (Has before) r list has))

pub still_all : {before after : Held} (list : List ℕ) → IsSound before → Went before after → All (Has before) list
    → All (Has after) list
still_all list sound went has =
    λ k d inside. still_has sound went (get_or list k d) (has k d inside)

map_append : (held : Held) (xs ys : List ℕ) → families held (xs ++ ys) ≡ families held xs ++ families held ys
map_append held [] ys = refl
map_append held (x ∷ xs) ys = ap (λ fs. family_in held x ∷ fs) (map_append held xs ys)

pub families_parts : (held : Held) (n : ℕ) (list : List ℕ)
    → families held list ≡ families held (take n list) ++ families held (drop n list)
families_parts held n list =
    ap (families held) (sym (take-append-drop n list)) ∙ map_append held (take n list) (drop n list)

-- ---- unions

pub few_united : {held : Held} (list : List ℕ) {r : ℕ} → IsSound held → All (Has held) list → length list < 2
    → r ≡ (if nat_lt 0 (length list) then get_or list 0 0 else 0) → Gave (IsLeastOfAll (families held list)) held held r
few_united {held} [] sound has few is =
    subst (Gave (IsLeastOfAll []) held held) (sym is)
    (Gave-there {is = IsLeastOfAll []} {r = 0} sound (let some = sound.terminals in omega arith)
    (subst (IsLeastOfAll []) (sym (family-empty (map_of held))) least_of_none))
few_united {held} (q ∷ []) {r} sound has few is =
    let here : r ≡ q = is ∙ cond-true (nat_lt 0 (length (q ∷ []))) q 0 (lt-ltb 0 (length (q ∷ [])) (omega arith)) in
    let there : Has held q = has 0 0 (omega arith) in
    subst (Gave (IsLeastOfAll (family_in held q ∷ [])) held held) (sym here)
    (Gave-there {is = IsLeastOfAll (family_in held q ∷ [])} {r = q} sound there
    (least_of_one (sound.antichains q there)))
few_united (q ∷ p ∷ list) sound has few is = absurd (omega arith)

-- ---- products

pub product_begun : {held : Held} (list : List ℕ) → IsSound held
    → IsLeastProductOfAll (take 0 (families held list)) (family_in held 1)
product_begun {held} list sound = subst (IsLeastProductOfAll []) (sym (family-unit (map_of held))) product_of_none

pub product_goes_on : (fs : List (List (List ℕ))) (place : ℕ) {f g h : List (List ℕ)} → place < length fs
    → get_or fs place [] ≡ g → IsLeastProductOfAll (take place fs) f → IsLeastProduct f g h
    → IsLeastProductOfAll (take (place + 1) fs) h
product_goes_on fs place {f} {g} {h} inside here of_fs is =
    subst (λ l. IsLeastProductOfAll l h) (sym (take_more fs place [] inside ∙ ap (λ q. take place fs ++ q ∷ []) here))
    (product_of_more (take place fs) f g h of_fs is)

pub member_family : (held : Held) (list : List ℕ) (place : ℕ) {r : ℕ} → place < length list → r ≡ get_or list place 0
    → get_or (families held list) place [] ≡ family_in held r
member_family held list place inside is =
    get_or-map (family_in held) list place 0 [] inside ∙ ap (family_in held) (sym is)

pub many_families : (held : Held) (list : List ℕ) → length (families held list) ≡ length list
many_families held list = length-map list (family_in held)
