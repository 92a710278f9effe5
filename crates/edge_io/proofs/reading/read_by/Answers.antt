use Rattle.std.proofs.Common.{◌≡◌, ◌+◌, ◌≤◌, length, take, ◌++◌, length-append, length-take, arith}
use Rattle.std.proofs.{lemmas.Grind.common_steps, lemmas.Result.err_from_is_err_and}
use Rattle.edge_io.specs.declared.reading.TheConstants.{INPUT_LIMIT}
use Rattle.edge_io.proofs.ReadingLemmas.{HasRead-none, HasRead-more, Reads-more}
use Rattle.edge_io.proofs.reading.read_by.Goals as goal

pub reading-init : goal.reading-init
reading-init g c = (
  c.requires,
  HasRead-none g.S.Source.held g.S.Source.faults g.S.Source.reads _ INPUT_LIMIT c.new-bytes.ensures.items,
)

pub returns-then-len-count-clause-reads : goal.returns-then-len-count-clause-reads
returns-then-len-count-clause-reads g c =
    let n = c.in-Ok.count in
    let piece = take n c.read.new.into in (
      c.reading.bytes.items ++ piece,
      Reads-more g.S.Source.reads _ c.reading.source _ c.reading.bytes.items c.read.new.into n c.reading.invariant.1.run
          (omega arith) c.in-Ok.ensures.bound c.in-Ok.ensures.step,
      omega (arith, c.in-Ok.ensures.bound, length-append c.reading.bytes.items piece, length-take n c.read.new.into),
    )

pub returns-in_err-extend_from_slice-clause-reads : goal.returns-in_err-extend_from_slice-clause-reads
returns-in_err-extend_from_slice-clause-reads g c =
    let n = c.in-Ok.count in
    let piece = take n c.read.new.into in
    let p = err_from_is_err_and c.from_residual.result c.from_residual.ensures.1 in
    rw (p.1, p.2) (
      c.reading.bytes.items ++ piece,
      Reads-more g.S.Source.reads _ c.reading.source _ c.reading.bytes.items c.read.new.into n c.reading.invariant.1.run
          (omega arith) c.in-Ok.ensures.bound c.in-Ok.ensures.step,
      omega (arith, c.in-Ok.ensures.bound, length-append c.reading.bytes.items piece, length-take n c.read.new.into),
    )

pub reading-preserved : goal.reading-preserved
reading-preserved g c =
    let grown : c.extend_from_slice.new.self.items ≡ c.reading.bytes.items ++ take c.in-Ok.count c.read.new.into =
    grind (arith, common_steps) in
    let room : length c.reading.bytes.items + c.in-Ok.count ≤ INPUT_LIMIT = grind arith in (
      omega arith,
      HasRead-more g.S.Source.held g.S.Source.faults g.S.Source.reads _ c.reading.source _
          c.reading.bytes.items c.read.new.into INPUT_LIMIT c.in-Ok.count c.reading.invariant.1 grown room (omega arith)
          c.in-Ok.ensures.bound c.in-Ok.ensures.next c.in-Ok.ensures.never_falls c.in-Ok.ensures.step,
    )
