use Rattle.edge_io.proofs.OutLemmas.{Puts-trans}
use Rattle.board_report.proofs.check.put_tree_and_crews.Goals as goal

pub returns-clause-puts : goal.returns-clause-puts
returns-clause-puts g c =
    Puts-trans c.put_titled_line.ensures.puts c.put_crews_line.ensures.puts
