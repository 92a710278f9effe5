use Rattle.event_counts.specs.Count.{Rose}
use Rattle.picture_engine.proofs.ToldLemmas.{front_clause, no_memory_clause, picture_clause, refused_clause}
use Rattle.picture_engine.proofs.ToldLemmas.{unnoted_clause}
use Rattle.picture_engine.proofs.running.run.Goals as goal

pub returns-clause-picture : goal.returns-clause-picture
returns-clause-picture g c =
    picture_clause c.args.words.now (g.S.Source.held c.args.source.now) (g.S.Source.held c.find_and_tell.new.source)
    (Rose (g.S.Source.faults c.args.source.now) (g.S.Source.faults c.find_and_tell.new.source))
    g.K.Sink.taken g.K.Sink.faults g.N.Sink.taken g.N.Sink.faults c.args.sink.now c.find_and_tell.new.sink
    c.args.notes.now c.find_and_tell.new.notes c.find_and_tell.result c.find_and_tell.ensures.runs

pub returns-clause-front : goal.returns-clause-front
returns-clause-front g c =
    front_clause c.args.words.now (g.S.Source.held c.args.source.now) (g.S.Source.held c.find_and_tell.new.source)
    (Rose (g.S.Source.faults c.args.source.now) (g.S.Source.faults c.find_and_tell.new.source))
    g.K.Sink.taken g.K.Sink.faults g.N.Sink.taken g.N.Sink.faults c.args.sink.now c.find_and_tell.new.sink
    c.args.notes.now c.find_and_tell.new.notes c.find_and_tell.result c.find_and_tell.ensures.runs

pub returns-clause-refused : goal.returns-clause-refused
returns-clause-refused g c =
    refused_clause c.args.words.now (g.S.Source.held c.args.source.now) (g.S.Source.held c.find_and_tell.new.source)
    (Rose (g.S.Source.faults c.args.source.now) (g.S.Source.faults c.find_and_tell.new.source))
    g.K.Sink.taken g.K.Sink.faults g.N.Sink.taken g.N.Sink.faults c.args.sink.now c.find_and_tell.new.sink
    c.args.notes.now c.find_and_tell.new.notes c.find_and_tell.result c.find_and_tell.ensures.runs

pub returns-clause-no_memory : goal.returns-clause-no_memory
returns-clause-no_memory g c =
    no_memory_clause c.args.words.now (g.S.Source.held c.args.source.now) (g.S.Source.held c.find_and_tell.new.source)
    (Rose (g.S.Source.faults c.args.source.now) (g.S.Source.faults c.find_and_tell.new.source))
    g.K.Sink.taken g.K.Sink.faults g.N.Sink.taken g.N.Sink.faults c.args.sink.now c.find_and_tell.new.sink
    c.args.notes.now c.find_and_tell.new.notes c.find_and_tell.result c.find_and_tell.ensures.runs

pub returns-clause-unnoted : goal.returns-clause-unnoted
returns-clause-unnoted g c =
    unnoted_clause c.args.words.now (g.S.Source.held c.args.source.now) (g.S.Source.held c.find_and_tell.new.source)
    (Rose (g.S.Source.faults c.args.source.now) (g.S.Source.faults c.find_and_tell.new.source))
    g.K.Sink.taken g.K.Sink.faults g.N.Sink.taken g.N.Sink.faults c.args.sink.now c.find_and_tell.new.sink
    c.args.notes.now c.find_and_tell.new.notes c.find_and_tell.result c.find_and_tell.ensures.runs
