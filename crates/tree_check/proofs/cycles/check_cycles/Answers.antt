use Rattle.std.proofs.Common.{◌≡◌, refl, sym, ap, ◌∙◌, drop}
use Rattle.tree_check.specs.{Said.definitions, Said.names, Classes.first, Marked.marked_places}
use Rattle.tree_check.proofs.Surveyed.{cycle_found, no_cycle, are_ranks}
use Rattle.tree_check.proofs.cycles.check_cycles.Goals.{After-first_marked-marked}
use Rattle.tree_check.proofs.cycles.check_cycles.Goals as goal

-- the first marked definition is that by the marks of the survey and the names of the text
marked_is : (c : After-first_marked-marked) → first (marked_places c.in_ok-survey.survey.on_cycle.items
    (names c.args.parts.statements.now) (definitions c.args.parts.statements.now)) ≡ c.first_marked-marked.result
marked_is c =
    ap (λ m. first (marked_places m (names c.args.parts.statements.now) (definitions c.args.parts.statements.now)))
    (sym c.deref.ensures.value)
    ∙ ap (λ n. first (marked_places c.deref.result.now n (definitions c.args.parts.statements.now)))
    (sym c.requires.names) ∙ sym c.first_marked-marked.ensures

pub returns-in-Some-clause-fault : goal.returns-in-Some-clause-fault
returns-in-Some-clause-fault c =
    let at = goal.at.returns-in-Some-clause-fault c in (
      refl,
      cycle_found c.args.parts.statements.now c.in_ok-survey.survey.on_cycle.items c.in_ok-survey.survey.ranks.items
          c.in_ok-survey.ensures c.in-Some.place (marked_is at.After-first_marked-marked ∙ c.in-Some.is),
    )

pub returns-in-None-clause-acyclic : goal.returns-in-None-clause-acyclic
returns-in-None-clause-acyclic c =
    let at = goal.at.returns-in-None-clause-acyclic c in
    no_cycle c.args.parts.statements.now c.in_ok-survey.survey.on_cycle.items c.in_ok-survey.survey.ranks.items
    c.in_ok-survey.ensures (marked_is at.After-first_marked-marked ∙ c.in-None.is)

pub returns-in-None-clause-ranks : goal.returns-in-None-clause-ranks
returns-in-None-clause-ranks c =
    let at = goal.at.returns-in-None-clause-ranks c in record {
      ranks = drop 1 c.in_ok-survey.survey.ranks.items;
      are = are_ranks c.args.parts.statements.now c.in_ok-survey.survey.on_cycle.items
          c.in_ok-survey.survey.ranks.items
          c.in_ok-survey.ensures (marked_is at.After-first_marked-marked ∙ c.in-None.is) c.requires.parts.once;
    }
