use Rattle.std.proofs.Common.{◌≡◌, ◌∙◌, ◌++◌, ap, refl, arith, is_ok, take, false}
use Rattle.std.specs.Prelude.{is_err}
use Rattle.cut_texts.specs.UnitTexts.{spaced}
use Rattle.cut_texts.proofs.LineLemmas.{SameHead-trans, all_there, ended_or_not, spelled_behind, start_ended}
use Rattle.cut_texts.proofs.LineLemmas.{start_is, whole}
use Rattle.cut_texts.proofs.line.Line.turn_to.Goals as goal

pub add_all-requires-clause-spelled : goal.add_all-requires-clause-spelled
add_all-requires-clause-spelled c = spelled_behind c.common-common.result c.requires.spelled

pub returns-then-is_err-clause-head : goal.returns-then-is_err-clause-head
returns-then-is_err-clause-head c =
    SameHead-trans (c.keep.ensures.head c.args.names.now.tree.now c.requires.line) c.add_all.ensures.head

pub returns-clause-line : goal.returns-clause-line
returns-clause-line c =
    let line = c.add_all.new.self in
    ended_or_not c.args.names.now.tree.now c.add_all.ensures.line (is_ok c.extend_from_slice.result) c.args.tail.now
    c.extend_from_slice.ensures.items

pub returns-clause-head : goal.returns-clause-head
returns-clause-head c =
    let line = c.add_all.new.self in
    SameHead-trans (SameHead-trans (c.keep.ensures.head c.args.names.now.tree.now
    c.requires.line) c.add_all.ensures.head)
    (record {
      head = refl;
      start =
          start_ended line.head line.text.items c.args.tail.now
          (is_ok c.extend_from_slice.result) c.extend_from_slice.ensures.items c.add_all.ensures.line.headed;
    })

pub returns-clause-text : goal.returns-clause-text
returns-clause-text c done =
    let old = c.args.self.now in
    let line = c.add_all.new.self in
    let tree = c.args.names.now.tree.now in
    let start = take old.head old.text.items in
    let added : is_err c.add_all.result ≡ false = grind arith in
    let units =
    all_there c.add_all.result c.args.units.now line.units.items old.units.items
    c.common-common.result added c.add_all.ensures.units c.keep.ensures.units c.common-common.ensures.same in
    let text : c.extend_from_slice.new.self.items ≡ line.text.items ++ c.args.tail.now = grind arith in
    whole tree c.add_all.ensures.line c.args.tail.now
    (start_is (SameHead-trans (c.keep.ensures.head tree c.requires.line) c.add_all.ensures.head) refl) text
    ∙ ap (λ units. start ++ (spaced tree units ++ c.args.tail.now)) units
