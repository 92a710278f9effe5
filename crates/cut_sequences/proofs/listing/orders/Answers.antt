use Rattle.std.proofs.Common.{◌≡◌, ◌<◌, ◌∙◌, List, length, sym, subst}
use Rattle.std.proofs.{lemmas.List.length-map, lemmas.Result.IfOk-weaker}
use Rattle.cut_sequences.specs.Dealing.{Share, AreShares, gathered}
use Rattle.cut_sequences.specs.Orders.{order_lists, order_limit, order_total, orders_of}
use Rattle.cut_sequences.proofs.DealLemmas.{gathered-is}
use Rattle.cut_sequences.proofs.listing.orders.Goals as goal

pub gather-requires-clause-shares : goal.gather-requires-clause-shares
gather-requires-clause-shares g c =
    let lists : Share = order_lists c.args.tree.now c.args.cuts.now c.args.most in
    let shares : List Share = c.in_ok-shares.shares.items in
    let all : c.len.result ≡ length lists =
    c.len.ensures.value ∙ sym (length-map c.args.cuts.now (orders_of c.args.tree.now c.args.most)) in
    subst (λ (l : Share). AreShares l shares) (sym
    (gathered-is c.in_ok-shares.ensures.shares all)) c.in_ok-shares.ensures.shares

pub returns-clause-listed : goal.returns-clause-listed
returns-clause-listed g c =
    let lists : Share = order_lists c.args.tree.now c.args.cuts.now c.args.most in
    let shares : List Share = c.in_ok-shares.shares.items in
    let all : c.len.result ≡ length lists =
    c.len.ensures.value ∙ sym (length-map c.args.cuts.now (orders_of c.args.tree.now c.args.most)) in
    let same : gathered c.len.result shares ≡ lists = gathered-is c.in_ok-shares.ensures.shares all in
    IfOk-weaker c.gather.result _ _ (λ made is. is ∙ same) c.gather.ensures.lists

pub returns-clause-limit : goal.returns-clause-limit
returns-clause-limit g c =
    let lists : Share = order_lists c.args.tree.now c.args.cuts.now c.args.most in
    let shares : List Share = c.in_ok-shares.shares.items in
    let all : c.len.result ≡ length lists =
    c.len.ensures.value ∙ sym (length-map c.args.cuts.now (orders_of c.args.tree.now c.args.most)) in
    let same : gathered c.len.result shares ≡ lists = gathered-is c.in_ok-shares.ensures.shares all in
    λ over. subst (λ (l : Share). order_limit < order_total l) same (c.gather.ensures.limit over)
