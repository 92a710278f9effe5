-- Crews are told by their names.
use Rattle.std.specs.Prelude.{◌≡◌, ℕ, zero, suc, ◌<◌, true, not, List, [], ◌∷◌, length, All}
use Rattle.std.proofs.Common.{refl, sym, ap, subst, ◌∙◌, arith, get_or, true≢false}
use Rattle.std.proofs.lemmas.Bool.{and_parts, or_left, or_right, not-true}
use Rattle.std.proofs.lemmas.List.{length-map, get_or-map}
use Rattle.fault_words.specs.Name.{is_name}
use Rattle.fault_words.specs.Names.{same_name, has_name, all_differ}
use Rattle.crew_script.specs.{Dockets.names_of, Dockets.crew_at, declared.dockets.Crew.Crew}
use lib.Pointwise.{bytes_decides}

has_at : (names : List (List ℕ)) (place : ℕ) {name : List ℕ} → place < length names → name ≡ get_or names place []
    → has_name names name ≡ true
has_at [] place short is = absurd (omega (arith, short))
has_at (first ∷ names) zero {name} short is =
    or_left (same_name name first) (has_name names name) ((bytes_decides name first).1 is)
has_at (first ∷ names) (suc place) {name} short is =
    or_right (same_name name first) (has_name names name) (has_at names place (omega (arith, short)) is)

first_again : {P : Type 0} {first : List ℕ} (names : List (List ℕ)) (place : ℕ)
    → all_differ (first ∷ names) ≡ true → place < length names
    → first ≡ get_or names place [] → P
first_again {first} names place differ short same =
    let parts = and_parts (not (has_name names first)) (all_differ names) differ in
    absurd (true≢false (sym (has_at names place short same) ∙ not-true (has_name names first) parts.0))

same_place : (names : List (List ℕ)) (i j : ℕ) → all_differ names ≡ true → i < length names
    → j < length names → get_or names i [] ≡ get_or names j [] → i ≡ j
same_place [] i j differ short also same = absurd (omega (arith, short))
same_place (first ∷ names) zero zero differ short also same = refl
same_place (first ∷ names) zero (suc j) differ short also same = first_again names j differ (omega (arith, also)) same
same_place (first ∷ names) (suc i) zero differ short also same =
    first_again names i differ (omega (arith, short)) (sym same)
same_place (first ∷ names) (suc i) (suc j) differ short also same =
    let parts = and_parts (not (has_name names first)) (all_differ names) differ in
    let places = same_place names i j parts.1 (omega (arith, short)) (omega (arith, also)) same in
    ap (λ n. suc n) places

name_at : (crews : List Crew) (number : ℕ) → get_or (names_of crews) number [] ≡ (crew_at crews number).name
name_at [] number = refl
name_at (crew ∷ crews) zero = refl
name_at (crew ∷ crews) (suc number) = name_at crews number

-- what holds of the names of crews holds of the name of each
pub each_named : (crews : List Crew) → All (λ (name : List ℕ). is_name name ≡ true) (names_of crews)
    → All (λ (crew : Crew). is_name crew.name ≡ true) crews
each_named crews all k d short =
    let name : Crew → List ℕ = λ crew. crew.name in
    let there : k < length (names_of crews) = omega (arith, short, length-map crews name) in
    subst (λ (n : List ℕ). is_name n ≡ true) (get_or-map name crews k d d.name short) (all k d.name there)

-- crews of one name have one number
pub same_crew : (crews : List Crew) (i j : ℕ) → all_differ (names_of crews) ≡ true → i < length crews → j < length crews
    → (crew_at crews i).name ≡ (crew_at crews j).name → i ≡ j
same_crew crews i j differ short also same =
    let all : length (names_of crews) ≡ length crews = length-map crews (λ (crew : Crew). crew.name) in
    same_place (names_of crews) i j differ (omega (arith, all, short)) (omega (arith, all, also))
    (name_at crews i ∙ same ∙ sym (name_at crews j))
