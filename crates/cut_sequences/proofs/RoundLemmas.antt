-- What the workers have after a round.
use Rattle.std.proofs.Common.{◌≡◌, ℕ, zero, suc, ◌+◌, ◌-◌, ◌<◌, ◌≤◌, List, [], ◌++◌, length, get_or, take, drop, map}
use Rattle.std.proofs.Common.{inl, inr, ◌∷◌}
use Rattle.std.proofs.Common.{All, None, Result, Ok, Err, ap, sym, subst, Contains, replicate, ◌∙◌, arith, add-one}
use Rattle.std.specs.Bool.{⊤}
use Rattle.std.specs.List.{sum_by}
use Rattle.std.proofs.{lemmas.Bool.cases_eq, lemmas.List.Sums.sum_by_more}
use Rattle.std.proofs.lemmas.List.{take_all, take_more, drop-drop, length-map, get_or-map}
use Rattle.std.proofs.lemmas.List.{get_or_append_left, get_or_push, length_push}
use Rattle.std.proofs.lemmas.List.Elements.{All-from_get_or, All-get_or, All-push, All-contains, All-drop}
use Rattle.deck_limits.specs.declared.TheConstants.{MOST_WORKERS}
use Rattle.cut_sequences.specs.{declared.refusal.OrderEnd.OrderEnd, declared.refusal.OrderEnd.TheVariants.OrderLimit}
use Rattle.cut_sequences.specs.{declared.share.Sets.Sets, declared.share.Work.Work, declared.share.Stop.Stop}
use Rattle.cut_sequences.specs.Orders.{order_limit, order_total, IsOver}
use Rattle.cut_sequences.specs.Dealing.{dealt, Share, AreShares}
use Rattle.cut_sequences.specs.Working.{whole, lists_due, AreOfTree, HasStopped, WentOn, AreAtWork, HaveWorked}
use Rattle.cut_sequences.specs.Working.{IsEndOfListed, orders_of_work}
use Rattle.cut_sequences.proofs.DealLemmas.{dealt-le, dealt-drop, dealt-none, dealt_total, dealt_total-all}
use Rattle.cut_sequences.proofs.{ListLemmas.IsOver-more, ListLemmas.order_total-append, ShareLemmas.none_listed}

no_work : Work
no_work = record { share = []; next = 0 }

-- ---- the numbers of orders

have_le : (lists : Share) (workers : ℕ) (work : Work) → orders_of_work work ≤ order_total (whole lists workers work)
have_le lists workers work = omega (arith, order_total-append work.share (dealt 0 (workers - 1) (drop work.next lists)))

works_total : {sets : Sets} {works : List Work} → AreAtWork sets works → (n : ℕ) → n ≤ length works
    → sum_by orders_of_work (take n works) ≤ dealt_total n (length works - 1) (lists_due sets)
works_total are zero short = omega arith
works_total {sets} {works} are (suc n) short =
    let below : n < length works = omega arith in
    let more : sum_by orders_of_work (take (suc n) works)
    ≡ sum_by orders_of_work (take n works) + orders_of_work (get_or works n no_work) =
    ap (λ m. sum_by orders_of_work (take m works)) (sym (add-one n))
    ∙ sum_by_more orders_of_work works n no_work below in
    omega (
      arith,
      more,
      works_total are n (omega arith),
      have_le (lists_due sets) (length works) (get_or works n no_work),
      ap order_total (are.each n no_work below),
    )

-- the workers have no more orders together than all sets
pub works_le : {sets : Sets} {works : List Work} → AreAtWork sets works
    → sum_by orders_of_work works ≤ order_total (lists_due sets)
works_le {sets} {works} are =
    let some : 0 < length works = are.some in
    let all : length works ≡ suc (length works - 1) = omega arith in
    omega (
      arith,
      ap (sum_by orders_of_work) (take_all (length works) works (omega arith)),
      works_total are (length works) (omega arith),
      ap (λ n. dealt_total n (length works - 1) (lists_due sets)) all,
      dealt_total-all (length works - 1) (lists_due sets),
    )

-- ---- the answers of a round

module _ {sets : Sets} (stop : Stop) {works : List Work} (answers : List (Result Work OrderEnd))
    (are : AreAtWork sets works) (many : length answers ≡ length works)
    (each : (worker : ℕ) (work : Work) (d : Result Work OrderEnd) → worker < length works
    → WentOn (lists_due sets) (length works) stop (get_or works worker work) (get_or answers worker d)) where
  -- a worker that has ended early had too many orders, if not too little memory
  abbrev ended : Result Work OrderEnd → Type 0
  ended (Ok work) = ⊤
  ended (Err end) = IsOver (order_total (lists_due sets)) end

  ended_by : (worker : ℕ) (answer : Result Work OrderEnd) → worker < length works
      → WentOn (lists_due sets) (length works) stop (get_or works worker no_work) answer → ended answer
  ended_by worker (Ok work) within went = tt
  ended_by worker (Err end) within went =
      IsOver-more (order_total (whole (lists_due sets) (length works) (get_or works worker no_work)))
      (order_total (lists_due sets)) end (omega (
        arith,
        ap order_total (are.each worker no_work within),
        dealt-le worker (length works - 1) (lists_due sets),
      )) went

  -- a worker that has too many orders shows that all sets have
  pub round_over : Contains answers (Err OrderLimit) → order_limit < order_total (lists_due sets)
  round_over has =
      All-contains ended answers (Err OrderLimit)
      (All-from_get_or ended answers (Ok no_work) (λ worker short.
      let within : worker < length works = omega (arith, many) in
      ended_by worker (get_or answers worker (Ok no_work)) within (each worker no_work (Ok no_work) within))) has

  module _ (later : List Work) (oks : answers ≡ map Ok later) where
    as_many : length later ≡ length works
    as_many = sym (length-map later Ok) ∙ sym (ap length oks) ∙ many

    went_at : (worker : ℕ) (d : Work) → worker < length works
        → WentOn (lists_due sets) (length works) stop (get_or works worker d) (Ok (get_or later worker d))
    went_at worker d within =
        let short : worker < length later = omega (arith, as_many) in
        let ok : get_or answers worker (Ok d) ≡ Ok (get_or later worker d) =
        ap (λ (l : List (Result Work OrderEnd)). get_or l worker (Ok d)) oks
        ∙ get_or-map Ok later worker d (Ok d) short in
        subst (WentOn (lists_due sets) (length works) stop (get_or works worker d)) ok (each worker d (Ok d) within)

    pub have_worked : HaveWorked (HasStopped stop) sets works later
    have_worked = record {
      at_work = record {
        some = omega (arith, are.some, as_many);
        few = omega (arith, are.few, as_many);
        units = are.units;
        each = λ worker d short.
            let within : worker < length works = omega (arith, as_many) in
            subst (λ n. whole (lists_due sets) n (get_or later worker d) ≡ dealt worker (n - 1) (lists_due sets))
            (sym as_many) ((went_at worker d within).0 ∙ are.each worker d within);
      };
      workers = as_many;
      done =
          All-from_get_or (HasStopped stop) later no_work (λ worker short.
          let within : worker < length works = omega (arith, as_many) in
          (went_at worker no_work within).1);
    }

-- ---- the first round and the last

pub one_start_more : (works : List Work) {next : ℕ} → length works ≡ next
    → ((worker : ℕ) (d : Work) → worker < length works → get_or works worker d ≡ record { share = []; next = worker })
    → (worker : ℕ) (d : Work) → worker < length (works ++ record { share = []; next = next } ∷ [])
    → get_or (works ++ record { share = []; next = next } ∷ []) worker d ≡ record { share = []; next = worker }
one_start_more works {next} many each worker d within = elim (cases_eq worker next) [
  | inl same ↦ get_or_push works (record { share = []; next = next }) d worker (many ∙ sym same)
      ∙ ap (λ n. record { share = []; next = n }) (sym same)
  | inr apart ↦
      let below : worker < length works = omega (arith, length_push works (record { share = []; next = next })) in
      get_or_append_left works _ d worker below ∙ each worker d below
]

pub all_start : {sets : Sets} {works : List Work} → AreOfTree sets → 0 < length works → length works ≤ MOST_WORKERS
    → ((worker : ℕ) (d : Work) → worker < length works → get_or works worker d ≡ record { share = []; next = worker })
    → AreAtWork sets works
all_start {sets} {works} units some few each = record {
  some = some;
  few = few;
  units = units;
  each =
      λ worker d within. ap (whole (lists_due sets) (length works)) (each worker d within)
      ∙ dealt-drop worker (length works - 1) (lists_due sets);
}

none_later : (lists : Share) (end next : ℕ) → end ≤ next → All (λ list. list ≡ None) (drop end lists)
    → All (λ list. list ≡ None) (drop next lists)
none_later lists end next before none =
    let at : end + (next - end) ≡ next = omega arith in
    subst (All (λ list. list ≡ None)) (drop-drop (next - end) end lists ∙ ap (λ n. drop n lists) at)
    (All-drop (λ list. list ≡ None) (next - end) (drop end lists) none)

-- the workers' shares, where no worker lacks a set before an end from which on none is listed
pub shares_at_end : {sets : Sets} {end : ℕ} {works : List Work} {shares : List Share} → AreAtWork sets works
    → IsEndOfListed sets.cuts.now sets.most end → All (λ (work : Work). end ≤ work.next) works
    → shares ≡ map (λ (work : Work). work.share) works → AreShares (lists_due sets) shares
shares_at_end {sets} {end} {works} {shares} are ends done is =
    let lists : Share = lists_due sets in
    let none : All (λ list. list ≡ None) (drop end lists) =
    none_listed sets.tree.now sets.most end sets.cuts.now ends.larger in
    let many : length shares ≡ length works = ap length is ∙ length-map works (λ (work : Work). work.share) in
    record {
      some = omega (arith, are.some, many);
      each = λ worker short.
          let within : worker < length works = omega (arith, many) in
          let work : Work = get_or works worker no_work in
          let past : end ≤ work.next = All-get_or (λ (w : Work). end ≤ w.next) works worker no_work within done in
          let rest =
          dealt-none 0 (length works - 1) (drop work.next lists) (none_later lists end work.next past none) in
          let same : get_or shares worker [] ≡ work.share =
          ap (λ (l : List Share). get_or l worker []) is
          ∙ get_or-map (λ (w : Work). w.share) works worker no_work [] within in (
            rest.0,
            ap (λ (s : Share). s ++ replicate rest.0 None) same ∙ ap (λ (l : Share). work.share ++ l) (sym rest.1)
                ∙ are.each worker no_work within ∙ ap (λ n. dealt worker (n - 1) lists) (sym many),
          );
    }

-- ---- workers that have stopped

pub one_more : (place i : ℕ) (works : List Work) {item : Work} → i < length works → item ≡ get_or works i item
    → All (λ (work : Work). place ≤ work.next) (take i works) → place ≤ item.next
    → All (λ (work : Work). place ≤ work.next) (take (i + 1) works)
one_more place i works {item} short is so_far here =
    subst (All (λ (work : Work). place ≤ work.next)) (sym (take_more works i item short))
    (All-push (λ (work : Work). place ≤ work.next) (take i works) (get_or works i item) so_far
    (subst (λ (work : Work). place ≤ work.next) is here))

pub stopped_there : (stop : Stop) (i : ℕ) (works : List Work) {item : Work} → i < length works
    → item ≡ get_or works i item → All (HasStopped stop) works → order_total item.share ≤ stop.orders
    → stop.place ≤ item.next
stopped_there stop i works {item} short is stopped few =
    subst (λ (work : Work). stop.place ≤ work.next) (sym is)
    (All-get_or (HasStopped stop) works i item short stopped
    (subst (λ (work : Work). order_total work.share ≤ stop.orders) is few))
