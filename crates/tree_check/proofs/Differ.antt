-- Names that all differ, as they come one after another.
use Rattle.std.proofs.Common.{◌≡◌, ◌≢◌, ℕ, Bool, true, false, not, List, [], ◌∷◌, ◌++◌, length, drop, get_or, ◌+◌, ◌<◌}
use Rattle.std.proofs.Common.{refl, sym, ap, ◌∙◌, subst, inl, inr, arith, append_assoc}
use Rattle.std.specs.Prelude.{◌||◌, ◌&&◌, if◌then◌else◌}
use Rattle.std.proofs.{lemmas.List.append-nil, lemmas.List.at_drop_more, lemmas.List.Folds.list_any-append}
use Rattle.std.proofs.lemmas.Bool.{cases_Bool, or_cases, or_left, or_right, or_parts, and_parts, false_from_ne_true}
use Rattle.std.proofs.lemmas.Bool.{cond-true}
use Rattle.std.specs.Borrow.{Bor}
use Rattle.std.specs.Prelude.{Option, Some, None}
use Rattle.galileo_tree.specs.{declared.raw.Statement.Statement, declared.raw.Placed.Placed}
use Rattle.galileo_tree.specs.declared.raw.Statement.TheVariants.{Top, Gate, Basic}
use lib.Pointwise.{bytes_decides}
use Rattle.fault_words.specs.Names.{same_name, has_name, all_differ}
use Rattle.tree_check.specs.Said.{basic_names, gate_names, names, definitions}
use Rattle.tree_check.proofs.SaidLemmas.{names_in}
use Rattle.tree_check.specs.Classes.{repeats, repeats_after, first}
use Rattle.fault_words.specs.declared.place.Place.{Place}
use Rattle.tree_check.specs.Naming.{name_list, names_of, Adds}
use Rattle.tree_check.specs.declared.naming.Named.{Named}
use Rattle.tree_check.specs.declared.naming.Named.TheVariants.{BasicEvents, Gates}

pub same_is : (a b : List ℕ) → same_name a b ≡ true → a ≡ b
same_is a b same = (bytes_decides a b).0 same

pub same_itself : (a b : List ℕ) → a ≡ b → same_name a b ≡ true
same_itself a b same = (bytes_decides a b).1 same

pub same_other_way : (a b : List ℕ) → same_name a b ≡ false → same_name b a ≡ false
same_other_way a b other =
    false_from_ne_true (same_name b a) (λ same. (let turned : same_name a b ≡ true =
    same_itself a b (sym (same_is b a same)) in cc))

pub has_middle : (xs ys : List (List ℕ)) (y : List ℕ) → has_name (xs ++ y ∷ ys) y ≡ true
has_middle [] ys y = or_left (same_name y y) (has_name ys y) (same_itself y y refl)
has_middle (x ∷ xs) ys y = or_right (same_name y x) (has_name (xs ++ y ∷ ys) y) (has_middle xs ys y)

-- a name that is among those before it
pub differ-found : (xs ys : List (List ℕ)) (y : List ℕ) → has_name xs y ≡ true → all_differ (xs ++ y ∷ ys) ≡ false
differ-found [] ys y found = absurd cc
differ-found (x ∷ xs) ys y found = elim (or_cases (same_name y x) (has_name xs y) found) [
  | inl same ↦
      let there : has_name (xs ++ y ∷ ys) x ≡ true =
      subst (λ z. has_name (xs ++ y ∷ ys) z ≡ true) (same_is y x same) (has_middle xs ys y) in
      cc
  | inr later ↦
      let rest : all_differ (xs ++ y ∷ ys) ≡ false = differ-found xs ys y later in
      elim (cases_Bool (has_name (xs ++ y ∷ ys) x)) [ inl yes' ↦ cc | inr no' ↦ cc ]
]

-- a name that is not
pub differ-push : (xs : List (List ℕ)) (y : List ℕ) → all_differ xs ≡ true → has_name xs y ≡ false
    → all_differ (xs ++ y ∷ []) ≡ true
differ-push [] y all new = refl
differ-push (x ∷ xs) y all new =
    let parts : (not (has_name xs x) ≡ true) × (all_differ xs ≡ true) =
    and_parts (not (has_name xs x)) (all_differ xs) all in
    let apart : (same_name y x ≡ false) × (has_name xs y ≡ false) = or_parts (same_name y x) (has_name xs y) new in
    let rest : all_differ (xs ++ y ∷ []) ≡ true = differ-push xs y parts.1 apart.1 in
    let other : same_name x y ≡ false = same_other_way y x apart.0 in
    let last : has_name (xs ++ y ∷ []) x ≡ (has_name xs x || (same_name x y || false)) =
    list_any-append (same_name x) xs (y ∷ []) in
    elim (cases_Bool (has_name xs x)) [ inl yes' ↦ absurd cc | inr no' ↦ cc ]

-- the names so far and those to come are all names
pub record Comes (start whole so_far to_come : List (List ℕ)) : Type 0 where
  pub all : so_far ++ to_come ≡ start ++ whole
  pub fresh : all_differ so_far ≡ true

pub Comes-more : (start whole so_far : List (List ℕ)) {to_come : List (List ℕ)} {name : List ℕ} {rest : List (List ℕ)}
    → to_come ≡ name ∷ rest → has_name so_far name ≡ false → Comes start whole so_far to_come
    → Comes start whole (so_far ++ name ∷ []) rest
Comes-more start whole so_far {name} {rest} is new c = record {
  all = append_assoc so_far (name ∷ []) rest ∙ (ap (λ t. so_far ++ t) (sym is) ∙ c.all);
  fresh = differ-push so_far name c.fresh new;
}

pub Comes-found : (start whole so_far : List (List ℕ)) {to_come : List (List ℕ)} {name : List ℕ} {rest : List (List ℕ)}
    → to_come ≡ name ∷ rest → has_name so_far name ≡ true → Comes start whole so_far to_come
    → all_differ (start ++ whole) ≡ false
Comes-found start whole so_far {name} {rest} is found c =
    ap all_differ (sym c.all) ∙ (ap (λ t. all_differ (so_far ++ t)) is ∙ differ-found so_far rest name found)

-- the next of what is left, by a function of all that is left
pub next : {X : Type 0} {Y : Type 0} (F : List X → Y) (xs : List X) (i : ℕ) {x : X} → i < length xs → x ≡ get_or xs i x
    → F (drop i xs) ≡ F (x ∷ drop (i + 1) xs)
next F xs i {x} l is = at_drop_more F xs i x l ∙ ap (λ y. F (y ∷ drop (i + 1) xs)) (sym is)

-- one more statement, by the name that it adds
pub Comes-adds : {start whole so_far to_come : List (List ℕ)} (name : Option (Bor (List ℕ)))
    (rest : List (List ℕ)) {new : List (List ℕ)} {fresh : Bool}
    → to_come ≡ name_list name ++ rest → Adds name fresh so_far new → fresh ≡ true → Comes start whole so_far to_come
    → Comes start whole new rest
Comes-adds {so_far = so_far} None rest {fresh} is adds yes' c =
    record {
      all = ap (λ n. n ++ rest) adds.1 ∙ (ap (λ t. so_far ++ t) (sym is) ∙ c.all);
      fresh = ap all_differ adds.1 ∙ c.fresh;
    }
Comes-adds {start = start} {whole = whole} {so_far = so_far} {to_come = to_come} (Some name) rest {new} {fresh} is adds
    yes' c =
    let unknown : has_name so_far name.now ≡ false =
    elim (cases_Bool (has_name so_far name.now)) [ inl there ↦ absurd cc | inr none ↦ none ] in
    let pushed : new ≡ so_far ++ name.now ∷ [] = adds.1 ∙ cond-true fresh (so_far ++ name.now ∷ []) so_far yes' in
    subst (λ n. Comes start whole n rest) (sym pushed) (Comes-more start whole so_far is unknown c)

pub Comes-refused : {start whole so_far to_come : List (List ℕ)} (name : Option (Bor (List ℕ)))
    (rest new : List (List ℕ)) {fresh : Bool}
    → to_come ≡ name_list name ++ rest → Adds name fresh so_far new → fresh ≡ false → Comes start whole so_far to_come
    → all_differ (start ++ whole) ≡ false
Comes-refused None rest new is adds none c = absurd (let never : true ≡ false = sym adds.0 ∙ none in cc)
Comes-refused {start = start} {whole = whole} {so_far = so_far} {to_come = to_come} (Some name) rest new is adds
    none c =
    let found : has_name so_far name.now ≡ true =
    elim (cases_Bool (has_name so_far name.now)) [ inl there ↦ there | inr unknown ↦ absurd cc ] in
    Comes-found start whole so_far is found c

names_of-cons : (named : Named) (statement : Statement) (rest : List Statement)
    → names_of named (statement ∷ rest) ≡ names_of named (statement ∷ []) ++ names_of named rest
names_of-cons BasicEvents (Top top) rest = refl
names_of-cons BasicEvents (Gate gate) rest = refl
names_of-cons BasicEvents (Basic basic) rest = refl
names_of-cons Gates (Top top) rest = refl
names_of-cons Gates (Gate gate) rest = refl
names_of-cons Gates (Basic basic) rest = refl

pub next_name : (named : Named) (xs : List Statement) (i : ℕ) {x : Statement} (name : Option (Bor (List ℕ)))
    → i < length xs → x ≡ get_or xs i x → names_of named (x ∷ []) ≡ name_list name
    → names_of named (drop i xs) ≡ name_list name ++ names_of named (drop (i + 1) xs)
next_name named xs i {x} name l is defines =
    next (names_of named) xs i l is ∙ (names_of-cons named x (drop (i + 1) xs)
    ∙ ap (λ n. n ++ names_of named (drop (i + 1) xs)) defines)

-- names that differ still do so without those at the end
pub differ-front : (xs ys : List (List ℕ)) → all_differ (xs ++ ys) ≡ true → all_differ xs ≡ true
differ-front [] ys h = refl
differ-front (x ∷ xs) ys h =
    let parts : (not (has_name (xs ++ ys) x) ≡ true) × (all_differ (xs ++ ys) ≡ true) =
    and_parts (not (has_name (xs ++ ys) x)) (all_differ (xs ++ ys)) h in
    let rest : all_differ xs ≡ true = differ-front xs ys parts.1 in
    let both : has_name (xs ++ ys) x ≡ (has_name xs x || has_name ys x) = list_any-append (same_name x) xs ys in
    elim (cases_Bool (has_name xs x)) [ inl there ↦ absurd cc | inr none ↦ cc ]

pub differ-front_false : (xs ys : List (List ℕ)) → all_differ xs ≡ false → all_differ (xs ++ ys) ≡ false
differ-front_false xs ys h =
    false_from_ne_true (all_differ (xs ++ ys))
    (λ all. (let front : all_differ xs ≡ true = differ-front xs ys all in cc))

-- where no name repeats an earlier one, all differ
pub differ-repeats : (earlier : List (List ℕ)) (definitions : List Placed) → all_differ earlier ≡ true
    → repeats_after earlier definitions ≡ []
    → all_differ (earlier ++ names_in definitions) ≡ true
differ-repeats earlier [] all none = ap all_differ (append-nil earlier) ∙ all
differ-repeats earlier (definition ∷ definitions) all none = elim (cases_Bool (has_name earlier definition.name)) [
  | inl there ↦
      let some : repeats_after earlier (definition ∷ definitions)
      ≡ definition.place ∷ repeats_after (earlier ++ definition.name ∷ []) definitions =
      ap (λ b. (if b then definition.place ∷ [] else []) ++ repeats_after (earlier ++ definition.name ∷ []) definitions)
      there in
      absurd cc
  | inr new ↦
      let rest : repeats_after earlier (definition ∷ definitions)
      ≡ repeats_after (earlier ++ definition.name ∷ []) definitions =
      ap (λ b. (if b then definition.place ∷ [] else []) ++ repeats_after (earlier ++ definition.name ∷ []) definitions)
      new in
      ap all_differ (sym (append_assoc earlier (definition.name ∷ []) (names_in definitions)))
      ∙ differ-repeats (earlier ++ definition.name ∷ []) definitions (differ-push earlier definition.name all new)
      (sym rest ∙ none)
]

-- and where all differ none repeats an earlier one
pub repeats-differ : (earlier : List (List ℕ)) (definitions : List Placed)
    → all_differ (earlier ++ names_in definitions) ≡ true → repeats_after earlier definitions ≡ []
repeats-differ earlier [] all = refl
repeats-differ earlier (definition ∷ definitions) all = elim (cases_Bool (has_name earlier definition.name)) [
  | inl there ↦ let never : all_differ (earlier ++ definition.name ∷ names_in definitions) ≡ false =
      differ-found earlier (names_in definitions) definition.name there in absurd cc
  | inr new ↦
      ap (λ b. (if b then definition.place ∷ [] else []) ++ repeats_after (earlier ++ definition.name ∷ []) definitions)
      new
      ∙ repeats-differ (earlier ++ definition.name ∷ []) definitions
      (ap all_differ (append_assoc earlier (definition.name ∷ []) (names_in definitions)) ∙ all)
]

-- ---- the names of the tree are those of the definitions in another order

has-middle_other : (xs ys : List (List ℕ)) (y z : List ℕ)
    → has_name (xs ++ y ∷ ys) z ≡ (same_name z y || has_name (xs ++ ys) z)
has-middle_other [] ys y z = refl
has-middle_other (x ∷ xs) ys y z =
    let rest : has_name (xs ++ y ∷ ys) z ≡ (same_name z y || has_name (xs ++ ys) z) = has-middle_other xs ys y z in
    elim (cases_Bool (same_name z x)) [
      | inl same ↦ elim (cases_Bool (same_name z y)) [ inl s ↦ cc | inr o ↦ cc ]
      | inr other ↦ elim (cases_Bool (same_name z y)) [ inl s ↦ cc | inr o ↦ cc ]
    ]

same_both : (a b : List ℕ) → same_name a b ≡ same_name b a
same_both a b = elim (cases_Bool (same_name a b)) [
  | inl same ↦ same ∙ sym (same_itself b a (sym (same_is a b same)))
  | inr other ↦ other ∙ sym (same_other_way a b other)
]

differ-middle : (xs ys : List (List ℕ)) (y : List ℕ)
    → all_differ (xs ++ y ∷ ys) ≡ (not (has_name (xs ++ ys) y) && all_differ (xs ++ ys))
differ-middle [] ys y = refl
differ-middle (x ∷ xs) ys y =
    let rest : all_differ (xs ++ y ∷ ys) ≡ (not (has_name (xs ++ ys) y) && all_differ (xs ++ ys)) =
    differ-middle xs ys y in
    let here : has_name (xs ++ y ∷ ys) x ≡ (same_name x y || has_name (xs ++ ys) x) = has-middle_other xs ys y x in
    let turned : same_name y x ≡ same_name x y = same_both y x in
    grind (arith, rest, here, turned)

pub has-names : (statements : List Statement) (z : List ℕ)
    → has_name (names statements) z ≡ has_name (names_in (definitions statements)) z
has-names [] z = refl
has-names (Top top ∷ statements) z = has-names statements z
has-names (Basic basic ∷ statements) z = ap (λ b. same_name z basic.name.name || b) (has-names statements z)
has-names (Gate gate ∷ statements) z =
    has-middle_other (basic_names statements) (gate_names statements) gate.name.name z
    ∙ ap (λ b. same_name z gate.name.name || b) (has-names statements z)

pub differ-names : (statements : List Statement)
    → all_differ (names statements) ≡ all_differ (names_in (definitions statements))
differ-names [] = refl
differ-names (Top top ∷ statements) = differ-names statements
differ-names (Basic basic ∷ statements) =
    let here = has-names statements basic.name.name in
    let rest = differ-names statements in
    cc
differ-names (Gate gate ∷ statements) =
    let here = has-names statements gate.name.name in
    let rest = differ-names statements in
    differ-middle (basic_names statements) (gate_names statements) gate.name.name ∙ cc

no_place : (places : List Place) → first places ≡ None → places ≡ []
no_place [] none = refl
no_place (place ∷ places) none = absurd cc

-- a text without a repeated definition has names that differ, and the other way round
pub some_repeat : (statements : List Statement) → all_differ (names statements) ≡ false
    → first (repeats statements) ≢ None
some_repeat statements same none =
    let all : all_differ (names_in (definitions statements)) ≡ true =
    differ-repeats [] (definitions statements) refl (no_place (repeats statements) none) in
    let all' : all_differ (names statements) ≡ true = differ-names statements ∙ all in
    cc

pub no_repeat : (statements : List Statement) → all_differ (names statements) ≡ true → repeats statements ≡ []
no_repeat statements all = repeats-differ [] (definitions statements) (sym (differ-names statements) ∙ all)
