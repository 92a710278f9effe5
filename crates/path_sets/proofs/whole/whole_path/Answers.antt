use Rattle.std.proofs.Common.{◌≡◌, ◌∙◌, Some, None, true, not, get_or, [], sym, ap, inl, inr, arith}
use Rattle.std.specs.Prelude.{position}
use Rattle.std.proofs.lemmas.{Bool.cases_lt, Bool.not_from_false, Bool.not_from_true, Option.get_or_from_slice_get}
use Rattle.path_sets.specs.Paths.{is_whole}
use Rattle.path_sets.proofs.PathLists.{found_at, found_none, none_exactly_where_cut}
use Rattle.path_sets.proofs.whole.whole_path.Goals as goal
use Rattle.path_sets.proofs.whole.whole_path.Goals.{After-has_member_out}

-- what was asked of the path at this place
asked : (c : After-has_member_out) → is_whole c.args.out.now (get_or c.args.paths.now c.loop-i.i [])
    ≡ not c.has_member_out.result
asked c =
    ap (is_whole c.args.out.now)
    (get_or_from_slice_get c.args.paths.now c.loop-i.i c.members.result.now [] c.members.ensures.value)
    ∙ ap not (sym c.has_member_out.ensures)

-- it is the first that is whole
found : (c : After-has_member_out) → not c.has_member_out.result ≡ true
    → Some c.loop-i.i ≡ position (is_whole c.args.out.now) c.args.paths.now
found c whole =
    found_at c.units.ensures.kept c.requires c.args.out.now c.loop-i.i c.loop-i.invariant.before
    (let t = c.loop-i-test.true in let all = c.len-i-end.ensures.value in omega (arith, t, all)) (asked c ∙ whole)

pub returns-then-not-has_member_out-clause-first : goal.returns-then-not-has_member_out-clause-first
returns-then-not-has_member_out-clause-first c =
    found (goal.at.returns-then-not-has_member_out-clause-first c).After-has_member_out
    (not_from_false _ c.if-not-has_member_out.true)

pub returns-then-not-has_member_out-clause-none : goal.returns-then-not-has_member_out-clause-none
returns-then-not-has_member_out-clause-none c =
    none_exactly_where_cut c.units.ensures.kept c.requires c.args.out.now (Some c.loop-i.i)
    (found (goal.at.returns-then-not-has_member_out-clause-none c).After-has_member_out
    (not_from_false _ c.if-not-has_member_out.true))

pub loop-i-preserved : goal.loop-i-preserved
loop-i-preserved c =
    let out = c.args.out.now in
    let paths = c.args.paths.now in
    record {
      before = λ k within. elim (cases_lt k c.loop-i.i) [
        | inl earlier ↦ c.loop-i.invariant.before k earlier
        | inr last ↦
            let e : k ≡ c.loop-i.i = omega (arith, within, last) in
            ap (λ n. is_whole out (get_or paths n [])) e
            ∙ asked (goal.at.loop-i-preserved c).After-has_member_out ∙ not_from_true _ c.if-not-has_member_out.false
      ];
    }

pub returns-clause-first : goal.returns-clause-first
returns-clause-first c =
    let all = c.len-i-end.ensures.value in
    let past = c.loop-i-test.false in
    let within = c.loop-i.auto.i-end in
    found_none c.units.ensures.kept c.requires c.args.out.now c.loop-i.i c.loop-i.invariant.before
    (omega (arith, all, past)) (omega (arith, all, within))

pub returns-clause-none : goal.returns-clause-none
returns-clause-none c =
    let all = c.len-i-end.ensures.value in
    let past = c.loop-i-test.false in
    let within = c.loop-i.auto.i-end in
    none_exactly_where_cut c.units.ensures.kept c.requires c.args.out.now None
    (found_none c.units.ensures.kept c.requires c.args.out.now c.loop-i.i c.loop-i.invariant.before
    (omega (arith, all, past)) (omega (arith, all, within)))
