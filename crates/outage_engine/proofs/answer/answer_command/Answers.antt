use Rattle.std.proofs.Common.{inl, inr, refl}
use Rattle.outage_engine.specs.Texts.{for_check, for_cuts, for_diagram, for_print}
use Rattle.outage_engine.proofs.Coming.{checked_came, helped_came, made_came, printed_came, sum_refused, summed_came}
use Rattle.outage_engine.proofs.Coming.{unread_came}
use Rattle.outage_engine.proofs.answer.answer_command.Goals as goal

-- ---- cuts, diagram, help

pub returns-in-Cuts : goal.returns-in-Cuts
returns-in-Cuts g c = rw c.in-Cuts.is record {
  came = c.answer_cuts.ensures.came;
  unread = inl (for_cuts c.in-Cuts.most, refl, refl);
}

pub returns-in-Diagram : goal.returns-in-Diagram
returns-in-Diagram g c = rw c.in-Diagram.is record {
  came = c.answer_sizes.ensures.came;
  unread = inl (for_diagram, refl, refl);
}

pub returns-in-Help : goal.returns-in-Help
returns-in-Help g c = rw c.in-Help.is record { came = helped_came; unread = inr refl }

-- ---- check

pub returns-in-Ok : goal.returns-in-Ok
returns-in-Ok g c = rw c.in-Check.is record {
  came = checked_came c.in-Ok.deck c.in-Ok.ensures.deck;
  unread = inl (for_check, refl, refl);
}

pub returns-in-Err : goal.returns-in-Err
returns-in-Err g c = rw c.in-Check.is record {
  came = unread_came for_check c.in-Err.end refl refl c.in-Err.ensures.refused;
  unread = inl (for_check, refl, refl);
}

-- ---- print

pub returns-in-Ok-read_tree : goal.returns-in-Ok-read_tree
returns-in-Ok-read_tree g c = rw c.in-Print.is record {
  came = printed_came c.in-Ok-read_tree.tree c.in-Ok-read_tree.ensures.tree;
  unread = inl (for_print, refl, refl);
}

pub returns-in-Err-read_tree : goal.returns-in-Err-read_tree
returns-in-Err-read_tree g c = rw c.in-Print.is record {
  came = unread_came for_print c.in-Err-read_tree.end refl refl c.in-Err-read_tree.ensures.refused;
  unread = inl (for_print, refl, refl);
}

-- ---- make

pub returns-in_ok-made-in-Deck-clause-came : goal.returns-in_ok-made-in-Deck-clause-came
returns-in_ok-made-in-Deck-clause-came g c =
    rw c.in-Make.is (rw c.in-Deck.is (made_came c.in-Make.number _ c.in_ok-made-in-Deck.ensures.text))

pub returns-in-Ok-sum_made-clause-came : goal.returns-in-Ok-sum_made-clause-came
returns-in-Ok-sum_made-clause-came g c =
    let sum = c.in-Ok-sum_made in
    rw c.in-Make.is (rw c.in-Summary.is (summed_came c.in-Make.number c.sum_made.ensures.left sum.summary
    sum.ensures.text sum.ensures.writable sum.ensures.bears))

pub returns-in-Err-sum_made-clause-came : goal.returns-in-Err-sum_made-clause-came
returns-in-Err-sum_made-clause-came g c =
    rw c.in-Make.is (rw c.in-Summary.is (sum_refused c.in-Make.number c.sum_made.ensures.left
    c.in-Err-sum_made.end c.in-Err-sum_made.ensures.refused))
