use Rattle.std.proofs.Common.{sym, ◌∙◌, ap, is_err}
use Rattle.edge_io.proofs.OutLemmas.{Puts-failed, Puts-trans}
use Rattle.outage_engine.proofs.tell.put_listing_and_board.Goals as goal

pub returns-in_err-put_listing-clause-puts : goal.returns-in_err-put_listing-clause-puts
returns-in_err-put_listing-clause-puts g c =
    Puts-trans c.put_listing.ensures.puts (Puts-failed
    (sym c.put_listing.ensures.answer ∙ ap is_err c.in_err-put_listing.was))

pub returns-clause-puts : goal.returns-clause-puts
returns-clause-puts g c =
    Puts-trans c.put_listing.ensures.puts c.put_board.ensures.puts
