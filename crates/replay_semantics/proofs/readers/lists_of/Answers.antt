use Rattle.replay_semantics.specs.Readers.{MoreReaders}
use Rattle.replay_semantics.proofs.ReaderLemmas.{HaveReaders, all_readers, changed_all, have_more, have_none}
use Rattle.std.proofs.Common.{arith, ◌+◌, refl, subst, sym}
use Rattle.replay_semantics.proofs.readers.lists_of.Goals as goal

pub loop-index-init : goal.loop-index-init
loop-index-init c = have_none c.in_ok-lists.ensures (omega arith)

pub loop-index-preserved : goal.loop-index-preserved
loop-index-preserved c =
    let lists = c.loop-index.lists.items in
    let new = c.add_each.new.lists in
    let more : MoreReaders lists new c.below.result.now (c.loop-index.index + 1) =
    subst (λ old. MoreReaders old new c.below.result.now (c.loop-index.index + 1)) c.as_mut_slice.ensures.value
    c.in_ok-add_each.ensures in
    subst (λ l. HaveReaders c.args.tree.now l (c.loop-index.index + 1))
    (sym (changed_all lists new more.all c.loop-index.lists.ok.0)) (have_more refl
    (omega arith, omega arith) c.below.ensures.below c.loop-index.invariant more)

pub returns : goal.returns
returns c = all_readers (omega arith) c.loop-index.invariant
