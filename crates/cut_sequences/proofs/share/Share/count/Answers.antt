use Rattle.std.proofs.Common.{◌≡◌, ℕ, List, length, get_or, ◌∙◌, ap, arith}
use Rattle.std.proofs.lemmas.List.{get_or_read}
use Rattle.flat_rows.specs.Rows.{start_of}
use Rattle.cut_sequences.proofs.HoldingLemmas.{list_stands, listed-within}
use Rattle.cut_sequences.proofs.share.Share.count.Goals as goal

pub index-requires : goal.index-requires
index-requires c =
    let within = listed-within c.args.self.now c.args.i c.requires in
    let here = list_stands c.args.i c.self.invariant c.self.view_is within in
    omega (arith, here.short, c.self.inside.ends.ok.0)

pub start-requires : goal.start-requires
start-requires c =
    let within = listed-within c.args.self.now c.args.i c.requires in
    let here = list_stands c.args.i c.self.invariant c.self.view_is within in
    omega (arith, here.short, ap length c.as_slice.ensures.value)

pub overflow_sub-result : goal.overflow_sub-result
overflow_sub-result c =
    let within = listed-within c.args.self.now c.args.i c.requires in
    let here = list_stands c.args.i c.self.invariant c.self.view_is within in
    let end : c.index.result.now ≡ get_or c.self.inside.ends.items c.args.i 0 =
    get_or_read c.self.inside.ends.items c.args.i c.index.result.now here.short c.index.ensures 0 in
    let start : c.start.result ≡ start_of 0 c.self.inside.ends.items c.args.i =
    c.start.ensures ∙ ap (λ (l : List ℕ). start_of 0 l c.args.i) c.as_slice.ensures.value in
    omega (arith, here.rise, start, end)

pub returns : goal.returns
returns c =
    let within = listed-within c.args.self.now c.args.i c.requires in
    let here = list_stands c.args.i c.self.invariant c.self.view_is within in
    let end : c.index.result.now ≡ get_or c.self.inside.ends.items c.args.i 0 =
    get_or_read c.self.inside.ends.items c.args.i c.index.result.now here.short c.index.ensures 0 in
    let start : c.start.result ≡ start_of 0 c.self.inside.ends.items c.args.i =
    c.start.ensures ∙ ap (λ (l : List ℕ). start_of 0 l c.args.i) c.as_slice.ensures.value in
    omega (arith, start, end, here.count c.requires)
