-- What the steps of a walk leave to be found.
use Rattle.std.proofs.Common.{◌≡◌, ◌≢◌, ℕ, ◌+◌, ◌*◌, ◌<◌, ◌≤◌, Bool, List, [], ◌∷◌, ◌++◌, length, take, refl, sym, ◌∙◌}
use Rattle.std.proofs.Common.{ap, subst, inl, inr, arith, append_assoc, length-append}
use Rattle.std.specs.Prelude.{◌==◌, ◌⊎◌, Err, IsErrOf}
use Rattle.std.specs.List.{AllByRecursion}
use Rattle.std.proofs.lemmas.Bool.{cases_Bool, eqb-true}
use Rattle.std.proofs.{Math.Seq.take-length, lemmas.List.Elements.filter-append}
use Rattle.std.proofs.lemmas.List.{append-nil, take-take, take-append-le, length-take-le}
use Rattle.unit_sets.specs.CutOrder.{weight, weight_limit}
use Rattle.zdd_families.specs.{Family.branch, Map.Knows, Map.family}
use Rattle.zdd_families.proofs.{CutsLemmas.each-contains, CutsLemmas.each-from_contains, Lists.each-weaker}
use Rattle.zdd_families.proofs.MapLemmas.{family-empty, family-unit}
use Rattle.cutset_listing.specs.{declared.walk.Pending.Pending, declared.walk.Walk.Walk, BySize.of_size, BySize.at_size}
use Rattle.cutset_listing.specs.Visits.{behind, still, IsPending, Nested, IsOn, Keeps, Stands, visits_left}
use Rattle.cutset_listing.specs.Visits.{ahead, Descends, with_later, WalksOn, IsTooHeavy}
use Rattle.cutset_listing.proofs.Behind.{behind-nothing, of_size-branch, weight-append, weight-cons}
use Rattle.cutset_listing.proofs.Behind.{weight-branch, parts_weigh_less}

-- ---- the pending nodes

pub still-push : (known : ℕ → ℕ) (path : List ℕ) (nodes : List Pending) (last : Pending) →
    still known path (nodes ++ last ∷ []) ≡ behind (take last.before path) (family known last.node)
    ++ still known path nodes
still-push known path [] last = sym (append-nil (behind (take last.before path) (family known last.node)))
still-push known path (node ∷ nodes) last =
    ap (λ q. q ++ behind (take node.before path) (family known node.node)) (still-push known path nodes last)
    ∙ append_assoc (behind (take last.before path) (family known last.node)) (still known path nodes)
    (behind (take node.before path) (family known node.node))

still-none : (known : ℕ → ℕ) (path : List ℕ) (nodes : List Pending) (none : Pending) → none.node ≡ 0
    → still known path (nodes ++ none ∷ []) ≡ still known path nodes
still-none known path nodes none is =
    still-push known path nodes none
    ∙ ap (λ (q : List (List ℕ)). behind (take none.before path) q ++ still known path nodes)
    (ap (family known) is ∙ family-empty known)

-- the path counts up to where the nodes stand
pub still-path : (known : ℕ → ℕ) (path path' : List ℕ) (nodes : List Pending)
    → AllByRecursion (λ (node : Pending). take node.before path ≡ take node.before path') nodes →
    still known path nodes ≡ still known path' nodes
still-path known path path' [] same = refl
still-path known path path' (node ∷ nodes) same =
    ap (λ q. q ++ behind (take node.before path) (family known node.node)) (still-path known path path' nodes same.1)
    ∙ ap (λ front. still known path' nodes ++ behind front (family known node.node)) same.0

pub visits-push : (known : ℕ → ℕ) (nodes : List Pending) (last : Pending)
    → visits_left known (nodes ++ last ∷ []) ≡ visits_left known nodes + (1 + 2 * weight (family known last.node))
visits-push known [] last = omega arith
visits-push known (node ∷ nodes) last = let e = visits-push known nodes last in omega (arith, e)

pub each-front : {K : Type 0} (P : K → Type 0) (xs ys : List K) → AllByRecursion P (xs ++ ys) → AllByRecursion P xs
each-front P [] ys all = tt
each-front P (x ∷ xs) ys all = (all.0, each-front P xs ys all.1)

pub each-last : {K : Type 0} (P : K → Type 0) (xs : List K) (x : K) → AllByRecursion P (xs ++ x ∷ []) → P x
each-last P [] x all = all.0
each-last P (y ∷ xs) x all = each-last P xs x all.1

each-push : {K : Type 0} (P : K → Type 0) (xs : List K) (x : K) → AllByRecursion P xs → P x
    → AllByRecursion P (xs ++ x ∷ [])
each-push P [] x all one = (one, tt)
each-push P (y ∷ xs) x all one = (all.0, each-push P xs x all.1 one)

-- a node stands no further down the path
abbrev Before : ℕ → Pending → Type 0
Before place node = node.before ≤ place

nested-front : (nodes : List Pending) (last : Pending) → Nested (nodes ++ last ∷ []) → Nested nodes
nested-front [] last nested = tt
nested-front (node ∷ nodes) last nested = (
  each-front (λ other. node.before ≤ other.before) nodes (last ∷ []) nested.0,
  nested-front nodes last nested.1,
)

nested-below : (nodes : List Pending) (last : Pending) → Nested (nodes ++ last ∷ [])
    → AllByRecursion (Before last.before) nodes
nested-below [] last nested = tt
nested-below (node ∷ nodes) last nested =
    (each-last (λ other. node.before ≤ other.before) nodes last nested.0, nested-below nodes last nested.1)

nested-push : (nodes : List Pending) (last : Pending) → Nested nodes
    → AllByRecursion (Before last.before) nodes → Nested (nodes ++ last ∷ [])
nested-push [] last nested below = (tt, tt)
nested-push (node ∷ nodes) last nested below = (
  each-push (λ other. node.before ≤ other.before) nodes last nested.0 below.0,
  nested-push nodes last nested.1 below.1,
)

-- ---- the steps

-- a walk at the top of a diagram
pub starts : (known : ℕ → ℕ) (root : ℕ) {path : List ℕ} {nodes : List Pending} {found : List (List (List ℕ))}
    {weighs : ℕ} → Knows known root →
    path ≡ [] → nodes ≡ record { node = root; before = 0 } ∷ [] → found ≡ [] → weighs ≡ 0
    → IsOn known (family known root) path nodes found weighs
starts known root knows e f g h =
    rw (e, f, g, h)
    (record {
      each_pending = ((knows, omega arith), tt);
      nested = (tt, tt);
      by_size = λ size. ap (of_size size) (behind-nothing (family known root));
      weight = let same = ap weight (behind-nothing (family known root)) in omega (arith, same);
    })

-- nodes that leave the same to be found
same_still : {known : ℕ → ℕ} {sets : List (List ℕ)} {path path' : List ℕ} {nodes nodes' : List Pending}
    {found : List (List (List ℕ))} {weighs : ℕ} → IsOn known sets path nodes found weighs
    → AllByRecursion (IsPending known path') nodes' → Nested nodes' → still known path' nodes' ≡ still known path nodes
    → IsOn known sets path' nodes' found weighs
same_still {found} {weighs} on each nested same = record {
  each_pending = each;
  nested = nested;
  by_size = λ size. ap (λ q. at_size found size ++ of_size size q) same ∙ on.by_size size;
  weight = ap (λ q. weighs + weight q) same ∙ on.weight;
}

module _ {known : ℕ → ℕ} {sets : List (List ℕ)} {path : List ℕ} (later : List Pending) (at : Pending)
    {found : List (List (List ℕ))} {weighs : ℕ} (on : IsOn known sets path (later ++ at ∷ []) found weighs) where
  below : AllByRecursion (Before at.before) later
  below = nested-below later at on.nested

  at_pending : IsPending known path at
  at_pending = each-last (IsPending known path) later at on.each_pending

  each_later : AllByRecursion (IsPending known path) later
  each_later = each-front (IsPending known path) later (at ∷ []) on.each_pending

  -- what stands on the path behind the last node's place doesn't count
  pub truncated : IsOn known sets (take at.before path) (later ++ at ∷ []) found weighs
  truncated =
      let short : length (take at.before path) ≡ at.before = length-take-le at.before path at_pending.1 in
      let upto : AllByRecursion (Before at.before) (later ++ at ∷ []) =
      each-push (Before at.before) later at below (omega arith) in
      same_still on
      (each-from_contains (IsPending known (take at.before path)) (later ++ at ∷ []) (λ node has.
      let h : node.before ≤ at.before = each-contains (Before at.before) (later ++ at ∷ []) node upto has in
      ((each-contains (IsPending known path) (later ++ at ∷ []) node on.each_pending has).0, omega (arith, short, h))))
      on.nested
      (still-path known (take at.before path) path (later ++ at ∷ []) (each-weaker (Before at.before)
      (λ (node : Pending). take node.before (take at.before path) ≡ take node.before path) (later ++ at ∷ [])
      (λ node h. take-take node.before at.before path h) upto))

  -- the family without sets has none
  pub skips : at.node ≡ 0 → IsOn known sets path later found weighs
  skips none = same_still on each_later (nested-front later at on.nested) (sym (still-none known path later at none))

  module _ (at_end : length path ≡ at.before) where
    whole : take at.before path ≡ path
    whole = ap (λ n. take n path) (sym at_end) ∙ take-length path

    module _ (unit : at.node ≡ 1) where
      one_set : still known path (later ++ at ∷ []) ≡ path ∷ still known path later
      one_set =
          still-push known path later at
          ∙ ap (λ (q : List (List ℕ)). behind (take at.before path) q ++ still known path later)
          (ap (family known) unit ∙ family-unit known)
          ∙ ap (λ (q : List ℕ). q ∷ still known path later) (append-nil (take at.before path) ∙ whole)

      one_set_weighs : weighs + ((1 + length path) + weight (still known path later)) ≡ weight sets
      one_set_weighs =
          ap (λ n. weighs + n) (sym (weight-cons path (still known path later)) ∙ ap weight (sym one_set)) ∙ on.weight

      -- the family of the empty set gives the units of the path
      pub keeps : (found' : List (List (List ℕ))) {weighs' : ℕ}
          → ((size : ℕ) → at_size found' size ≡ at_size found size ++ of_size size (path ∷ []))
          → weighs' ≡ weighs + (1 + length path) →
          IsOn known sets path later found' weighs'
      keeps found' added more = record {
        each_pending = each_later;
        nested = nested-front later at on.nested;
        by_size = λ size.
            ap (λ q. q ++ of_size size (still known path later)) (added size)
            ∙ append_assoc (at_size found size) (of_size size (path ∷ [])) (of_size size (still known path later))
            ∙ ap (λ q. at_size found size ++ q) (sym (filter-append (λ (set : List ℕ). length set == size) (path ∷ [])
            (still known path later)))
            ∙ ap (λ q. at_size found size ++ of_size size q) (sym one_set)
            ∙ on.by_size size;
        weight = let e = one_set_weighs in omega (arith, e, more);
      }

      pub too_heavy : weight_limit < weighs + (1 + length path) → weight_limit < weight sets
      too_heavy heavy = let e = one_set_weighs in omega (arith, e, heavy)

    -- a node gives the sets of hi behind its unit, and those of lo
    pub opens : (x lo hi : ℕ) → family known at.node ≡ branch x (family known lo) (family known hi) → Knows known lo
        → Knows known hi →
        {path' : List ℕ} (nodes' : List Pending) → path' ≡ path ++ x ∷ []
        → nodes' ≡ (later ++ record { node = lo; before = at.before } ∷ [])
        ++ record { node = hi; before = at.before + 1 } ∷ [] →
        IsOn known sets path' nodes' found weighs
    opens x lo hi is knows_lo knows_hi nodes' e f =
        let lo_at : Pending = record { node = lo; before = at.before } in
        let hi_at : Pending = record { node = hi; before = at.before + 1 } in
        let on_path : List ℕ = path ++ x ∷ [] in
        let long : length on_path ≡ at.before + 1 = length-append path (x ∷ []) ∙ ap (λ n. n + 1) at_end in
        let front : take at.before on_path ≡ path =
        take-append-le at.before path (x ∷ []) (omega (arith, at_end)) ∙ whole in
        let all : take (at.before + 1) on_path ≡ on_path = ap (λ n. take n on_path) (sym long) ∙ take-length on_path in
        let same_later : still known on_path later ≡ still known path later =
        still-path known on_path path later
        (each-weaker (Before at.before) (λ (node : Pending). take node.before on_path ≡ take node.before path) later
        (λ node h. sym (take-take node.before at.before on_path h) ∙ ap (take node.before) front) below) in
        let H : List (List ℕ) = behind on_path (family known hi) in
        let L : List (List ℕ) = behind path (family known lo) in
        let R : List (List ℕ) = still known path later in
        let now : still known on_path ((later ++ lo_at ∷ []) ++ hi_at ∷ []) ≡ H ++ (L ++ R) =
        still-push known on_path (later ++ lo_at ∷ []) hi_at
        ∙ ap (λ q. behind q (family known hi) ++ still known on_path (later ++ lo_at ∷ [])) all
        ∙ ap (λ q. H ++ q) (still-push known on_path later lo_at
        ∙ ap (λ q. behind q (family known lo) ++ still known on_path later) front ∙ ap (λ q. L ++ q) same_later) in
        let before : still known path (later ++ at ∷ [])
        ≡ behind path (branch x (family known lo) (family known hi)) ++ R =
        still-push known path later at ∙ ap (λ q. behind q (family known at.node) ++ R) whole
        ∙ ap (λ q. behind path q ++ R) is in
        let in_size : (size : ℕ) → of_size size (H ++ (L ++ R)) ≡ of_size size (still known path (later ++ at ∷ [])) =
        λ size.
        let t : List ℕ → Bool = λ set. length set == size in
        filter-append t H (L ++ R)
        ∙ ap (λ q. of_size size H ++ q) (filter-append t L R)
        ∙ sym (append_assoc (of_size size H) (of_size size L) (of_size size R))
        ∙ ap (λ q. q ++ of_size size R) (sym (of_size-branch size path x (family known lo) (family known hi)))
        ∙ sym (filter-append t (behind path (branch x (family known lo) (family known hi))) R)
        ∙ ap (of_size size) (sym before) in
        let in_weight : weight (H ++ (L ++ R)) ≡ weight (still known path (later ++ at ∷ [])) =
        let a = weight-append H (L ++ R) in
        let b = weight-append L R in
        let c = weight-branch path x (family known lo) (family known hi) in
        let d = weight-append (behind path (branch x (family known lo) (family known hi))) R in
        let g = ap weight before in
        omega (arith, a, b, c, d, g) in
        rw (e, f)
        (record {
          each_pending =
              each-push (IsPending known on_path) (later ++ lo_at ∷ []) hi_at
              (each-push (IsPending known on_path) later lo_at
              (each-weaker (IsPending known path) (IsPending known on_path) later
              (λ node is. (is.0, omega (arith, is.1, long, at_end))) each_later)
              (knows_lo, omega (arith, long)))
              (knows_hi, omega (arith, long));
          nested =
              nested-push (later ++ lo_at ∷ []) hi_at
              (nested-push later lo_at (nested-front later at on.nested) below)
              (each-push (Before (at.before + 1)) later lo_at
              (each-weaker (Before at.before) (Before (at.before + 1)) later (λ node h. omega (arith, h)) below)
              (omega arith));
          by_size =
              λ size. ap (λ q. at_size found size ++ of_size size q) now
              ∙ ap (λ q. at_size found size ++ q) (in_size size) ∙ on.by_size size;
          weight = ap (λ q. weighs + weight q) now ∙ ap (λ n. weighs + n) in_weight ∙ on.weight;
        })

-- a visit leaves fewer
pub fewer_left : (known : ℕ → ℕ) (nodes : List Pending) (last : Pending)
    → visits_left known nodes < visits_left known (nodes ++ last ∷ [])
fewer_left known nodes last = let e = visits-push known nodes last in omega (arith, e)

pub parts_left : (known : ℕ → ℕ) (nodes nodes' : List Pending) (last : Pending) (x lo hi n m : ℕ)
    → family known last.node ≡ branch x (family known lo) (family known hi) → family known hi ≢ [] →
    nodes' ≡ (nodes ++ record { node = lo; before = n } ∷ []) ++ record { node = hi; before = m } ∷ []
    → visits_left known nodes' < visits_left known (nodes ++ last ∷ [])
parts_left known nodes nodes' last x lo hi n m is filled same =
    let lo_at : Pending = record { node = lo; before = n } in
    let hi_at : Pending = record { node = hi; before = m } in
    let a = ap (visits_left known) same in
    let b = visits-push known (nodes ++ lo_at ∷ []) hi_at in
    let c = visits-push known nodes lo_at in
    let d = visits-push known nodes last in
    let e = ap weight is in
    let less = parts_weigh_less x (family known lo) filled in
    omega (arith, a, b, c, d, e, less)

-- ---- going down

-- a node without sets that stands before the last one
pub leaves_out : {known : ℕ → ℕ} {sets : List (List ℕ)} {path : List ℕ} (later : List Pending) (none last : Pending)
    {found : List (List (List ℕ))} {weighs : ℕ} → none.node ≡ 0
    → IsOn known sets path ((later ++ none ∷ []) ++ last ∷ []) found weighs →
    IsOn known sets path (later ++ last ∷ []) found weighs
leaves_out {known} {path} later none last empty on =
    same_still on
    (each-push (IsPending known path) later last
    (each-front (IsPending known path) later (none ∷ []) (each_later (later ++ none ∷ []) last on))
    (at_pending (later ++ none ∷ []) last on))
    (nested-push later last (nested-front later none (nested-front (later ++ none ∷ []) last on.nested))
    (each-front (Before last.before) later (none ∷ []) (below (later ++ none ∷ []) last on)))
    (still-push known path later last
    ∙ ap (λ q. behind (take last.before path) (family known last.node) ++ q)
    (sym (still-none known path later none empty))
    ∙ sym (still-push known path (later ++ none ∷ []) last))

-- what a step down leaves of two walks
pub record Opens (known : ℕ → ℕ) (old new : Walk) (node x lo hi : ℕ) : Type 0 where
  pub parts : family known node ≡ branch x (family known lo) (family known hi)
  pub knows_lo : Knows known lo
  pub knows_hi : Knows known hi
  pub path : new.path.items ≡ old.path.items ++ x ∷ []
  pub pending : new.pending.items ≡ with_later old.pending.items (ahead old lo)
  pub found : new.found ≡ old.found
  pub weight : new.weight ≡ old.weight

module _ {known : ℕ → ℕ} {old new : Walk} {node x lo hi : ℕ} (is : Opens known old new node x lo hi) where
  abbrev hi_at : Pending
  hi_at = record { node = hi; before = length old.path.items + 1 }

  now : ahead new hi ≡ hi_at
  now = ap (λ n. record { node = hi; before = n }) (ap length is.path ∙ length-append old.path.items (x ∷ []))

  abbrev both : List Pending
  both = (old.pending.items ++ ahead old lo ∷ []) ++ hi_at ∷ []

  -- either both nodes are left, or lo has no sets and hi alone is left
  abbrev left : List Pending → Type 0
  left nodes = (nodes ≡ both) ⊎ ((nodes ≡ old.pending.items ++ hi_at ∷ []) × (lo ≡ 0))

  left_now : left (new.pending.items ++ ahead new hi ∷ [])
  left_now = rw (now, is.pending) (elim (cases_Bool (lo == 0)) [
    | inl empty ↦ inr (rw empty refl, eqb-true lo 0 empty)
    | inr filled ↦ inl (rw filled refl)
  ])

  pub opens_on : (sets : List (List ℕ)) → Stands known sets old (old.pending.items ++ ahead old node ∷ [])
      → Stands known sets new (new.pending.items ++ ahead new hi ∷ [])
  opens_on sets on =
      let same : IsOn known sets new.path.items both old.found old.weight =
      opens old.pending.items (ahead old node) on refl x lo hi is.parts is.knows_lo is.knows_hi both is.path refl in
      let now_on : IsOn known sets new.path.items both new.found new.weight = rw (is.found, is.weight) same in
      elim left_now [
        | inl e ↦ subst (λ nodes. IsOn known sets new.path.items nodes new.found new.weight) (sym e) now_on
        | inr e ↦ subst (λ nodes. IsOn known sets new.path.items nodes new.found new.weight) (sym e.0)
            (leaves_out old.pending.items (ahead old lo) hi_at e.1 now_on)
      ]

  pub opens_fewer : family known hi ≢ [] → visits_left known (new.pending.items ++ ahead new hi ∷ [])
      < visits_left known (old.pending.items ++ ahead old node ∷ [])
  opens_fewer filled =
      let less : visits_left known both < visits_left known (old.pending.items ++ ahead old node ∷ []) =
      parts_left known old.pending.items both (ahead old node) x lo hi (length old.path.items)
      (length old.path.items + 1) is.parts filled refl in
      elim left_now [
        | inl e ↦ let f = ap (visits_left known) e in omega (arith, less, f)
        | inr e ↦
            let a = visits-push known (old.pending.items ++ ahead old lo ∷ []) hi_at in
            let b = visits-push known old.pending.items (ahead old lo) in
            let d = visits-push known old.pending.items hi_at in
            let f = ap (visits_left known) e.0 in
            omega (arith, less, a, b, d, f)
      ]

  pub opens_to : family known hi ≢ [] → Descends known old node new hi
  opens_to filled = record {
    on = opens_on;
    weight = is.weight;
    fewer = let less = opens_fewer filled in omega (arith, less);
  }

-- one step after another
pub Descends-then : {known : ℕ → ℕ} {old mid new : Walk} {node next last : ℕ} → Descends known old node mid next
    → Descends known mid next new last → Descends known old node new last
Descends-then first second = record {
  on = λ sets stands. second.on sets (first.on sets stands);
  weight = second.weight ∙ first.weight;
  fewer = let a = first.fewer in let b = second.fewer in omega (arith, a, b);
}

-- the empty set alone: the units of the path are a set
pub keeps_on : (known : ℕ → ℕ) {sets : List (List ℕ)} (old new : Walk) (at : Pending) → Keeps old new
    → length old.path.items ≡ at.before → at.node ≡ 1 →
    Stands known sets old (old.pending.items ++ at ∷ []) → Stands known sets new new.pending.items
keeps_on known old new at kept at_end unit on =
    rw (kept.path, kept.pending) (keeps old.pending.items at on at_end unit new.found kept.found kept.weight)

pub keeps_fewer : (known : ℕ → ℕ) (old new : Walk) (at : Pending) → Keeps old new
    → visits_left known new.pending.items < visits_left known (old.pending.items ++ at ∷ [])
keeps_fewer known old new at kept = rw kept.pending (fewer_left known old.pending.items at)

-- ---- the first of a node's sets

module _ {known : ℕ → ℕ} {old end : Walk} (at : Pending) (at_end : length old.path.items ≡ at.before)
    (down : Descends known old at.node end 1) where
  at_is : ahead old at.node ≡ at
  at_is = ap (λ n. record { node = at.node; before = n }) at_end

  at_end_on : {sets : List (List ℕ)} → Stands known sets old (old.pending.items ++ at ∷ [])
      → Stands known sets end (end.pending.items ++ ahead end 1 ∷ [])
  at_end_on {sets} stands =
      down.on sets (subst (λ (q : Pending). Stands known sets old (old.pending.items ++ q ∷ [])) (sym at_is) stands)

  pub finds_on : {new : Walk} → Keeps end new → WalksOn known old (old.pending.items ++ at ∷ []) new new.pending.items
  finds_on {new} kept sets stands = keeps_on known end new (ahead end 1) kept refl refl (at_end_on stands)

  pub finds_heavy : weight_limit < end.weight + (1 + length end.path.items)
      → IsTooHeavy known old (old.pending.items ++ at ∷ [])
  finds_heavy heavy sets stands =
      too_heavy end.pending.items (ahead end 1) (at_end_on stands) refl refl heavy

  pub finds_fewer : {new : Walk} → Keeps end new
      → visits_left known new.pending.items < visits_left known (old.pending.items ++ at ∷ [])
  finds_fewer {new} kept =
      let less = down.fewer in
      let a = keeps_fewer known end new (ahead end 1) kept in
      let b = ap (λ (q : Pending). visits_left known (old.pending.items ++ q ∷ [])) at_is in
      omega (arith, less, a, b)

-- a refusal that is handed on
pub refused_so : {T U E : Type 0} (end why : E) → IsErrOf {T = T} (Err end) why → IsErrOf {T = U} (Err end) why
refused_so end why refused = cc
