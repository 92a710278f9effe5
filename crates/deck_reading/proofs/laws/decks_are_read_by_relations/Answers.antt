use Rattle.deck_reading.proofs.Relating.{crews_by_relations, fault_by_relations, read_by_relations, tree_by_relations}
use Rattle.deck_reading.proofs.laws.decks_are_read_by_relations.Goals as goal

pub returns-clause-read : goal.returns-clause-read
returns-clause-read c =
    read_by_relations c.decks_are_divided_once.ensures.read c.decks_are_divided_once.ensures.once
    c.reads_its_text.ensures c.reads_one_way.ensures
    c.parses_its_text.ensures.reading c.parses_one_way.ensures

pub returns-clause-tree : goal.returns-clause-tree
returns-clause-tree c =
    tree_by_relations c.decks_are_divided_once.ensures.read c.decks_are_divided_once.ensures.once
    c.reads_its_text.ensures c.reads_one_way.ensures
    c.parses_its_text.ensures.reading c.parses_one_way.ensures

pub returns-clause-fault : goal.returns-clause-fault
returns-clause-fault c =
    fault_by_relations c.decks_are_divided_once.ensures.read c.decks_are_divided_once.ensures.once
    c.reads_its_text.ensures c.reads_one_way.ensures
    c.parses_its_text.ensures.reading c.parses_one_way.ensures

pub returns-clause-crews : goal.returns-clause-crews
returns-clause-crews c =
    crews_by_relations c.decks_are_divided_once.ensures.read c.decks_are_divided_once.ensures.once
    c.crews_or_first_fault.ensures
    c.crew_part_has_one_answer.ensures
