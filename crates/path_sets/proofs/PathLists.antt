-- Path lists: from the path family of the top event, and what the units that are out have to do with them.
use Rattle.std.specs.Prelude.{◌≡◌, ◌↔◌, ℕ, ◌<◌, ◌≤◌, Bool, true, false, not, List, [], length, Contains, get_or}
use Rattle.std.specs.Prelude.{Option, Some, None, IsNone, position}
use Rattle.std.specs.List.{position_or_len}
use Rattle.std.proofs.Common.{refl, sym, ◌∙◌, ap, subst, inl, inr, arith}
use Rattle.std.proofs.lemmas.Bool.{cases_Bool, cases_lt, cond-true, cond-false, false≢true, not_from_false}
use Rattle.std.proofs.lemmas.Bool.{not_from_true}
use Rattle.std.proofs.lemmas.Bool.{false_from_ne_true, le-ltb, lt-ltb}
use Rattle.std.proofs.lemmas.List.Elements.{All-contains, All-weaker, All-contains_itself, Contains-get_or}
use Rattle.std.proofs.lemmas.List.Sums.{fails_before_first, passes_at_first, position_or_len_is}
use Rattle.unit_sets.proofs.{Sorted.same_from_members, UnitListLemmas.Contains-from_among}
use Rattle.unit_sets.specs.CutOrder.{IsInCutOrder, cut_cmp_total}
use Rattle.unit_sets.specs.UnitList.{among}
use Rattle.fault_definitions.specs.{Cut.is_cut, Reading.reads, WellFormed.IsTree}
use Rattle.fault_definitions.specs.Tree.{FaultTree, is_fdep}
use Rattle.fault_definitions.proofs.{MinimalCuts.reads-by_units, ReadingLaws.reads-full, ReadingLaws.reads-rises}
use Rattle.zdd_families.proofs.{CutsLemmas.test_from, WithinLemmas.HasWithin, WithinLemmas.HasWithin-from_test}
use Rattle.path_sets.specs.Paths.{IsMinimalPath, IsPathFamily, IsPathList, is_path}
use Rattle.path_sets.specs.Paths.{is_whole, meets}
use Rattle.path_sets.proofs.PathFamilies.{HasPathFamily, has_path_family}
use Rattle.path_sets.proofs.Serving.{all_turned}

-- ---- a tree has one path list

pub path_list-one : (tree : FaultTree) (paths others : List (List ℕ)) → IsPathList tree paths → IsPathList tree others
    → paths ≡ others
path_list-one tree paths others is is' =
    same_from_members cut_cmp_total paths others is.ordered is'.ordered
    (λ set has. is'.complete set (All-contains (IsMinimalPath tree) paths set is.sound has))
    (λ set has. is.complete set (All-contains (IsMinimalPath tree) others set is'.sound has))

-- ---- from the path family of the top event

module _ (tree : FaultTree) (family : List (List ℕ)) (is : IsPathFamily tree tree.top family) where
  -- its sets in the order of cut lists are the path list
  pub path_list-from_family : (paths : List (List ℕ)) → ((set : List ℕ) → Contains paths set ↔ Contains family set)
      → IsInCutOrder paths → IsPathList tree paths
  path_list-from_family paths same ordered = record {
    sound =
        All-weaker (Contains paths) (IsMinimalPath tree)
        (λ set has. All-contains (IsMinimalPath tree) family set is.sound ((same set).0 has)) paths
        (All-contains_itself paths);
    complete = λ set minimal. (same set).1 (is.complete set minimal);
    ordered = ordered;
  }

  -- the empty set is no path set
  pub no_empty_path : IsTree tree → Contains family [] → ⊥
  no_empty_path kept has =
      false≢true (sym (ap not (reads-full kept (λ unit. not (among [] unit)) (λ unit _. refl) tree.top kept.top_is_node
      kept.top_is_read))
      ∙ (All-contains (IsMinimalPath tree) family [] is.sound has).passes)

-- ---- paths and cuts

none_meets : (cut path : List ℕ) (unit : ℕ) → meets cut path ≡ false → among cut unit ≡ true → among path unit ≡ false
none_meets cut path unit apart has =
    false_from_ne_true (among path unit) (λ member.
    false≢true (sym apart ∙ test_from (among cut) path unit (Contains-from_among path unit member) has))

-- each path set has a member in common with each cut
pub path_meets_cut : (tree : FaultTree) (path cut : List ℕ) → is_path tree path ≡ true → is_cut tree cut ≡ true
    → meets cut path ≡ true
path_meets_cut tree path cut keeps fails =
    elim (cases_Bool (meets cut path)) [
      | inl met ↦ met
      | inr apart ↦
          let lost : reads tree (λ unit. not (among path unit)) tree.top ≡ true =
          reads-rises tree (among cut) (λ unit. not (among path unit)) (record {
            kept =
                λ unit has. not_from_false (among path unit) (none_meets cut path unit apart has);
          }) tree.top fails in
          absurd (false≢true (sym (not_from_true _ lost) ∙ keeps))
    ]

not_not : (b : Bool) → not (not b) ≡ b
not_not true = refl
not_not false = refl

-- a path of a list that is whole
record HasWhole (paths : List (List ℕ)) (out : List ℕ) : Type 0 where
  path : List ℕ
  has : Contains paths path
  whole : is_whole out path ≡ true

module _ {tree : FaultTree} (kept : IsTree tree) {paths : List (List ℕ)} (is : IsPathList tree paths) (out : List ℕ)
  where
    -- where the units that are out are no cut, some path is whole
    whole_where_no_cut : is_cut tree out ≡ false → HasWhole paths out
    whole_where_no_cut lives =
        let in_service : ℕ → Bool = λ unit. not (among out unit) in
        let read : is_fdep tree tree.top ≡ false = kept.top_is_read in
        let found : HasPathFamily tree tree.top = has_path_family tree kept tree.top kept.top_is_node read in
        let same : reads tree (λ unit. not (in_service unit)) tree.top ≡ reads tree (among out) tree.top =
        reads-by_units kept (λ unit. not (in_service unit)) (among out) (λ unit _. not_not (among out unit)) tree.top
        kept.top_is_node in
        let one : HasWithin found.family in_service =
        HasWithin-from_test found.family
        (found.serves.some_within in_service ∙ not_from_false _ (same ∙ lives)) in
        record {
          path = one.set;
          has =
              is.complete one.set (All-contains (IsMinimalPath tree) found.family one.set found.is.sound one.has);
          whole = sym (all_turned (among out) one.set) ∙ one.passes;
        }

    -- where they are one, no path is
    none_where_cut : is_cut tree out ≡ true → (path : List ℕ) → Contains paths path → is_whole out path ≡ false
    none_where_cut fails path has =
        not_from_true _ (path_meets_cut tree path out (All-contains (IsMinimalPath tree) paths path is.sound has).passes
        fails)

    abbrev first : ℕ
    first = position_or_len (is_whole out) paths

    pub none_exactly_where_cut : (answer : Option ℕ) → answer ≡ position (is_whole out) paths
        → IsNone answer ↔ (is_cut tree out ≡ true)
    none_exactly_where_cut answer same =
        elim (cases_lt first (length paths)) [
          | inl short ↦
              let at : position (is_whole out) paths ≡ Some first =
              cond-true _ _ _ (lt-ltb first (length paths) short) in
              let is_some : answer ≡ Some first = same ∙ at in
              let whole : is_whole out (get_or paths first []) ≡ true =
              passes_at_first (is_whole out) paths [] short in (
                λ none. absurd (false≢true (sym (subst (λ (r : Option ℕ). IsNone r) is_some none))),
                λ fails. absurd (false≢true (sym (none_where_cut fails (get_or paths first [])
                    (Contains-get_or paths first [] short)) ∙ whole)),
              )
          | inr past ↦
              let at : position (is_whole out) paths ≡ None =
              cond-false _ _ _ (le-ltb first (length paths) past) in (
                λ none. elim (cases_Bool (is_cut tree out)) [
                  | inl fails ↦ fails
                  | inr lives ↦
                      let found : HasWhole paths out = whole_where_no_cut lives in
                      let k : ℕ = found.has.0 in
                      absurd (false≢true (sym (fails_before_first (is_whole out) paths k found.path
                      (let short = found.has.1 in omega (arith, short, past)))
                      ∙ ap (is_whole out) found.has.2 ∙ found.whole))
                ],
                λ fails. subst (λ (r : Option ℕ). IsNone r) (sym (same ∙ at)) refl,
              )
        ]

    -- ---- the two ends of a search from the first path on

    module _ (place : ℕ) (before : (k : ℕ) → k < place → is_whole out (get_or paths k []) ≡ false) where
      pub found_at : place < length paths → is_whole out (get_or paths place []) ≡ true
          → Some place ≡ position (is_whole out) paths
      found_at short whole =
          let at : first ≡ place =
          position_or_len_is (is_whole out) paths place [] (omega (arith, short)) before (λ _. whole) in
          rw (at, lt-ltb place (length paths) short)

      pub found_none : length paths ≤ place → place ≤ length paths → None ≡ position (is_whole out) paths
      found_none past within =
          let none : place < length paths → is_whole out (get_or paths place []) ≡ true =
          λ short. absurd (omega (arith, short, past)) in
          let at : first ≡ place = position_or_len_is (is_whole out) paths place [] within before none in
          rw (at, le-ltb place (length paths) past)
