use Rattle.std.proofs.Common.{◌≡◌, ℕ, ◌+◌, List, [], length, get_or, ◌∙◌, ap, sym, arith}
use Rattle.flat_rows.specs.Rows.{start_of}
use Rattle.cut_sequences.proofs.HoldingLemmas.{order_stands}
use Rattle.cut_sequences.proofs.share.Share.order.Goals as goal

pub start-requires : goal.start-requires
start-requires c =
    let place = order_stands c.args.i c.args.j c.self.invariant c.self.view_is c.requires in
    omega (arith, place.set, ap length c.as_slice.ensures.value)

pub overflow_add-start : goal.overflow_add-start
overflow_add-start c =
    let place = order_stands c.args.i c.args.j c.self.invariant c.self.view_is c.requires in
    let start : c.start.result ≡ start_of 0 c.self.inside.ends.items c.args.i =
    c.start.ensures ∙ ap (λ (l : List ℕ). start_of 0 l c.args.i) c.as_slice.ensures.value in
    omega (arith, start, place.short, c.self.invariant.few)

pub row-requires : goal.row-requires
row-requires c =
    let place = order_stands c.args.i c.args.j c.self.invariant c.self.view_is c.requires in
    let start : c.start.result ≡ start_of 0 c.self.inside.ends.items c.args.i =
    c.start.ensures ∙ ap (λ (l : List ℕ). start_of 0 l c.args.i) c.as_slice.ensures.value in
    omega (arith, start, place.short)

pub returns : goal.returns
returns c =
    let place = order_stands c.args.i c.args.j c.self.invariant c.self.view_is c.requires in
    let start : c.start.result ≡ start_of 0 c.self.inside.ends.items c.args.i =
    c.start.ensures ∙ ap (λ (l : List ℕ). start_of 0 l c.args.i) c.as_slice.ensures.value in
    c.row.ensures ∙ ap (λ n. get_or c.self.inside.orders (n + c.args.j) []) start ∙ sym place.is
