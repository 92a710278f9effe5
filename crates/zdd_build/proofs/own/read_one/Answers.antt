use Rattle.std.proofs.Common.{◌≡◌, ◌∙◌, ◌<◌, ◌-◌, ℕ, get_or, length, subst, sym, ap, arith}
use Rattle.std.proofs.lemmas.List.{get_or_read}
use Rattle.fault_definitions.specs.CutFamily.{IsCutFamily}
use Rattle.zdd_families.specs.Map.{family}
use Rattle.zdd_shared_table.specs.Seats.{map_of}
use Rattle.zdd_build.proofs.OwnLemmas.{cut_family_antichain, gave_cut}
use Rattle.zdd_build.proofs.own.read_one.Goals as goal
use Rattle.zdd_build.proofs.own.read_one.Goals.{After-index-references-index}

-- what was read is the family of the node's cuts
is_cut : (c : After-index-references-index) → IsCutFamily c.args.tree.now c.args.node
    (family (map_of c.args.worker.now.ops) c.index-references-index.result)
is_cut c =
    let references = c.args.references.now in
    let short : c.index.result < length references =
    (let low = c.requires.node.0 in let high = c.requires.within in let e = c.index.ensures in
    omega (arith, low, high, e)) in
    let same : c.index-references-index.result ≡ get_or references (c.args.node - 1) 0 =
    get_or_read references c.index.result c.index-references-index.result short c.index-references-index.is 0
    ∙ ap (λ n. get_or references n 0) c.index.ensures in
    subst (λ (q : ℕ). IsCutFamily c.args.tree.now c.args.node (family (map_of c.args.worker.now.ops) q)) (sym same)
    c.requires.knows.1

pub import-requires-clause-antichain : goal.import-requires-clause-antichain
import-requires-clause-antichain c =
    cut_family_antichain c.units.ensures.kept c.requires.node
    (is_cut (goal.at.import-requires-clause-antichain c).After-index-references-index)

pub returns-clause-gives : goal.returns-clause-gives
returns-clause-gives c =
    gave_cut (is_cut (goal.at.returns-clause-gives c).After-index-references-index)
    c.args.worker.now.memory c.import.new.memory c.import.result c.import.ensures.gives
