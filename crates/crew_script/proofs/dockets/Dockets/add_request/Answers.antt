use Rattle.std.proofs.Common.{◌≡◌, ◌+◌, length, sym, ap, subst, ◌∙◌, arith}
use Rattle.std.specs.Prelude.{None}
use Rattle.crew_script.specs.Crews.{request_fault, with_ask}
use Rattle.crew_script.proofs.DocketLemmas.{Keeps, dockets_request, ask_placed}
use Rattle.crew_script.proofs.dockets.Dockets.add_request.Goals as goal

pub invariant_of-self-2 : goal.invariant_of-self-2
invariant_of-self-2 c =
    let crews = c.self.inside.crews.items in
    let count : c.len-last.result ≡ length crews = omega arith in
    let none = subst (λ l. request_fault l ≡ None) (sym c.self.view_is) c.requires.faultless in
    subst (λ l. Keeps l (c.self.inside.total + 1)) (sym (ask_placed crews c.args.ask none count
    c.index_mut.ensures.value c.in_ok-push.ensures.added))
    (dockets_request crews c.self.inside.total c.args.ask c.self.invariant none c.requires.margin)

pub returns : goal.returns
returns c =
    let crews = c.self.inside.crews.items in
    let count : c.len-last.result ≡ length crews = omega arith in
    let none = subst (λ l. request_fault l ≡ None) (sym c.self.view_is) c.requires.faultless in
    ask_placed crews c.args.ask none count c.index_mut.ensures.value c.in_ok-push.ensures.added
    ∙ ap (with_ask c.args.ask) c.self.view_is
