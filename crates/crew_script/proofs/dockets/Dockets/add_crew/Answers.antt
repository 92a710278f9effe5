use Rattle.std.proofs.Common.{◌≡◌, [], ◌∷◌, ◌++◌, sym, ap, subst, ◌∙◌}
use Rattle.std.specs.Prelude.{None}
use Rattle.crew_script.specs.Crews.{crew_fault}
use Rattle.crew_script.proofs.DocketLemmas.{named, Keeps, dockets_crew}
use Rattle.crew_script.proofs.dockets.Dockets.add_crew.Goals as goal

pub invariant_of-self-2 : goal.invariant_of-self-2
invariant_of-self-2 c =
    let crews = c.self.inside.crews.items in
    let name = c.args.name in
    let none : crew_fault crews name ≡ None =
    subst (λ l. crew_fault l name ≡ None) (sym c.self.view_is) c.requires.faultless in
    let more : c.push.new.self.items ≡ crews ++ named name ∷ [] =
    c.in_ok-push.ensures.items ∙ ap (λ d. crews ++ record { name = name; docket = d } ∷ []) c.new-docket.ensures in
    subst (λ l. Keeps l c.self.inside.total) (sym more)
    (dockets_crew crews c.self.inside.total name c.as_slice.ensures.form c.self.invariant none)
