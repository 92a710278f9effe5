use Rattle.std.proofs.Common.{ℕ, ◌+◌, ◌<◌, sym, ◌∙◌, ap, subst, refl, arith, add-zero}
use Rattle.zdd_words.specs.Word.{home_of}
use Rattle.zdd_words.proofs.WordLemmas.{home_of-below}
use Rattle.zdd_shared_table.specs.Views.{passed_on}
use Rattle.zdd_shared_table.proofs.Rounds.{round-here, round-step}
use Rattle.zdd_shared_table.proofs.Searching.{search_here, next_here, passing-more}
use Rattle.zdd_shared_table.proofs.search.search.Goals as goal

pub loop-passed-init : goal.loop-passed-init
loop-passed-init c =
    let inside : c.home-slot.result < c.args.size =
    let w = c.requires.size.0 in let h = c.home-slot.ensures.within in omega arith in
    record {
      inside = inside;
      here = λ some.
          let h : home_of c.args.word c.args.bits + 0 < c.args.size =
          let e = c.home-slot.ensures.value in omega arith in
          c.home-slot.ensures.value ∙ (sym (add-zero (home_of c.args.word c.args.bits))
          ∙ sym (round-here c.args.size (home_of c.args.word c.args.bits + 0) h));
      view = refl;
      stays = (refl, refl, refl);
      sound = c.requires.sound;
    }

pub ends_at-requires-clause-search : goal.ends_at-requires-clause-search
ends_at-requires-clause-search c =
    search_here c.args.seat.now.me.0
    c.requires.few c.requires.many c.requires.key c.requires.size.0 c.requires.sized c.requires.node
    c.loop-passed-test.true
    (c.loop-passed.invariant.here c.loop-passed-test.true) c.loop-passed.invariant.view

pub loop-passed-preserved : goal.loop-passed-preserved
loop-passed-preserved c =
    let inv = c.loop-passed.invariant in
    let short : c.loop-passed.passed < c.args.size = c.loop-passed-test.true in
    let in_home : home_of c.args.word c.args.bits < c.args.size =
    let m = c.requires.many in let b = home_of-below c.args.word c.args.bits (omega arith) in
    let w = c.requires.size.0 in omega arith in
    let P : ℕ → Type 0 = λ n. n < c.args.size in
    record {
      inside = subst P (sym c.next-slot.ensures) (round-step c.args.size c.loop-passed.slot inv.inside);
      here =
          λ more. next_here (home_of c.args.word c.args.bits) c.args.size c.loop-passed.passed in_home short
          (inv.here short) c.next-slot.ensures more;
      view =
          (rw c.if-ends_at.false at c.ends_at.ensures.view)
          ∙ (ap (λ v. passed_on c.args.word c.loop-passed.passed v) inv.view
          ∙ passing-more c.args.word c.loop-passed.passed c.args.seat.now.me.0
          (let s = c.requires.sized in omega arith));
      stays = (
        c.ends_at.ensures.stays.0 ∙ inv.stays.0,
        c.ends_at.ensures.stays.1 ∙ inv.stays.1,
        c.ends_at.ensures.stays.2 ∙ inv.stays.2,
      );
      sound = c.ends_at.ensures.sound;
    }
