use Rattle.std.proofs.Common.{rules, ◌≡◌, ◌≤◌, length, replicate, ◌∙◌, ap, arith}
use Rattle.crew_script.specs.Dockets.{request_count}
use Rattle.outage_board.proofs.OpeningLemmas.{opens}
use Rattle.outage_board.proofs.state.BoardState.open.Goals as goal

pub invariant_of-result : goal.invariant_of-result
invariant_of-result c =
    let crews = c.args.dockets.now in
    let next : c.in_ok-places.places.items ≡ replicate c.crews.result 0 = search rules in
    let many : c.crews.result ≡ length crews = c.crews.ensures.count in
    let room : request_count crews ≤ c.total.result = let e = c.total.ensures.count in omega arith in
    opens c.args.tree.now c.args.cuts.now c.args.margin _ c.crews.ensures.kept
    (let cap = c.in_ok-history.ensures.capacity in omega arith) c.in_ok-kept.ensures
    c.units.ensures.count c.supervisor_of-supervisor.ensures c.in-Ok.ensures
    c.in_ok-requests.ensures c.in_ok-history.ensures.items (next ∙ ap (λ n. replicate n 0) many)
