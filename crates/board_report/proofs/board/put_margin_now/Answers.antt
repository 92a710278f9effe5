use Rattle.std.proofs.Common.{◌≡◌, true, arith, sym, ◌∙◌, subst, [], codes, ◌++◌}
use Rattle.std.specs.Prelude.{if◌then◌else◌}
use Rattle.std.specs.Fmt.{decimal}
use Rattle.edge_io.specs.Out.{Puts}
use Rattle.board_report.proofs.board.put_margin_now.Goals as goal

pub returns : goal.returns
returns g c =
    let granted : c.has_granted_margin.result ≡ true = grind arith in
    subst (λ b. Puts g.K.Sink.taken g.K.Sink.faults c.args.out.now c.put_counted.new.out
    (if b then codes "margin now: " ++ (decimal c.args.margin ++ codes "\n") else []))
    (sym granted ∙ c.has_granted_margin.ensures) c.put_counted.ensures.puts
