use Rattle.std.proofs.Common.{List, [], ◌∷◌, ◌++◌, sym, ◌∙◌, ap, subst}
use Rattle.atomic_table.specs.Table.{opening}
use Rattle.live_board.specs.{Boards.LiveView, Rule.KeepsHistory, Views.first_view}
use Rattle.live_board.proofs.TableLemmas.{opens_table}
use Rattle.live_board.proofs.table.laid.Goals as goal

pub new-requires : goal.new-requires
new-requires c =
    let about = c.of-opened.result in
    let state = c.args.state in
    let items =
    c.push_reserved.ensures.items ∙ ap (λ (l : List LiveView). l ++ state ∷ []) c.in-Ok.ensures.items in
    subst (λ (l : List LiveView). KeepsHistory about (opening (0 ∷ []) l (first_view about.value))) (sym items)
    (opens_table about state c.of-opened.ensures c.requires.empty)
