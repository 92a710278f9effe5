use Rattle.std.proofs.Common.{arith, ◌∙◌, ◌+◌, ◌<◌, ◌^◌, ◌++◌, ◌∷◌, [], ℕ, ap, get_or, map, suc, sym, take}
use Rattle.std.proofs.{lemmas.List.map_more, lemmas.List.take_all, lemmas.List.Elements.All-get_or}
use Rattle.fault_model.proofs.ranking.nodes_at.Goals as goal

pub overflow_cast-place : goal.overflow_cast-place
overflow_cast-place c =
    let low = All-get_or (λ place. place < 2 ^ 31) c.args.places.now c.loop-place.place-index 0
    c.loop-place-test.true c.requires in
    omega arith

pub overflow_add-place : goal.overflow_add-place
overflow_add-place c =
    let low = All-get_or (λ place. place < 2 ^ 31) c.args.places.now c.loop-place.place-index 0
    c.loop-place-test.true c.requires in
    omega arith

pub loop-place-preserved : goal.loop-place-preserved
loop-place-preserved c =
    let place : ℕ = get_or c.args.places.now c.loop-place.place-index 0 in
    c.in_ok-push.ensures.items
    ∙ ap (λ nodes. nodes ++ (place + 1) ∷ []) c.loop-place.invariant
    ∙ ap (λ node. map suc (take c.loop-place.place-index c.args.places.now) ++ node ∷ []) (omega arith)
    ∙ sym (map_more suc c.args.places.now c.loop-place.place-index 0 c.loop-place-test.true)

pub returns : goal.returns
returns c = c.loop-place.invariant ∙ ap (map suc) (take_all c.loop-place.place-index c.args.places.now (omega arith))
