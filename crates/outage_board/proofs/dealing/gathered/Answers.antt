use Rattle.std.proofs.Common.{[], ◌∷◌, ◌++◌, sym, ◌∙◌, ap, append_assoc}
use Rattle.outage_board.specs.Dealing.{board_of, made_back}
use Rattle.outage_board.proofs.PassLemmas.{pop_of, made_back-last}
use Rattle.outage_board.proofs.dealing.gathered.Goals as goal

pub loop-pass-preserved : goal.loop-pass-preserved
loop-pass-preserved c =
    let board = board_of c.args.words.now.table_id c.args.words.now.key in
    let pass = c.in-Some.pass in
    let left = c.pop.new.self.passes in
    let crews = c.loop-pass.place.me.0.crews in
    record {
      own = c.gather.ensures.own;
      place = c.gather.ensures.place;
      left = (pop_of board left pass c.in-Some.ensures.last c.loop-pass.invariant.left).0;
      crews = c.loop-pass.invariant.crews
          ∙ ap (λ ps. crews ++ made_back ps) c.in-Some.ensures.last
          ∙ ap (λ l. crews ++ l) (made_back-last left pass)
          ∙ sym (append_assoc crews (made_back (pass ∷ [])) (made_back left))
          ∙ ap (λ l. l ++ made_back left) (sym c.gather.ensures.crews);
    }
