use Rattle.std.proofs.Common.{◌≡◌, ◌+◌, ◌-◌, [], ◌∷◌, ◌++◌, length, sym, ◌∙◌, ap, arith}
use Rattle.outage_board.specs.Dealing.{board_of, undealt}
use Rattle.outage_board.proofs.PassLemmas.{new_passes-more, new_passes-length}
use Rattle.outage_board.proofs.dealing.dealt.Goals as goal

pub push_reserved-requires : goal.push_reserved-requires
push_reserved-requires c =
    let board = board_of c.args.words.now.table_id c.args.words.now.key in
    let long : length c.loop-number.passes.items ≡ c.loop-number.number =
    ap length c.loop-number.invariant.dealt ∙ new_passes-length board 0 c.loop-number.number in
    omega (arith, c.loop-number-test.true, c.loop-number.invariant.room)

pub loop-number-preserved : goal.loop-number-preserved
loop-number-preserved c =
    let board = board_of c.args.words.now.table_id c.args.words.now.key in
    let number = c.loop-number.number in
    let fewer : (c.args.crews - number) - 1 ≡ c.args.crews - (number + 1) = omega arith in
    let same = c.push_reserved.ensures.capacity in
    let room = c.loop-number.invariant.room in
    record {
      own = c.deal-pass.ensures.own;
      place = c.deal-pass.ensures.place ∙ ap (λ n. (undealt c.args.words.now.key (number + 1) n, [])) fewer;
      dealt =
          c.push_reserved.ensures.items ∙ (λ i. c.loop-number.invariant.dealt i ++ c.deal-pass.ensures.pass i ∷ [])
          ∙ sym (new_passes-more board number);
      room = omega arith;
    }
