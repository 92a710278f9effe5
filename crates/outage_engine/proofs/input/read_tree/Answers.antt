use Rattle.std.specs.Prelude.{None}
use Rattle.deck_reading.specs.{declared.deck.CrewPart.TheVariants.Unread, Faults.IsWellFormed}
use Rattle.outage_engine.proofs.{Clauses.of_input, Reading.without_crews}
use Rattle.outage_engine.proofs.input.read_tree.Goals as goal

pub returns-in-Ok : goal.returns-in-Ok
returns-in-Ok g c = record {
  tree =
      of_input (g.S.Source.held c.args.source.now) (g.S.Source.held c.read_input.new.source)
      (λ bytes. IsWellFormed Unread bytes c.in-Ok.deck.tree c.in-Ok.deck.crews)
      (λ bytes. IsWellFormed Unread bytes c.in-Ok.deck.tree None)
      (λ bytes. without_crews c.in-Ok.deck.crews) c.in-Ok.ensures.deck;
  refused = tt;
}
