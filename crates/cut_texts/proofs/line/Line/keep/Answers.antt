use Rattle.std.proofs.Common.{◌≡◌, ◌+◌, ◌-◌, ◌∙◌, ap, refl, length, take, arith}
use Rattle.std.proofs.lemmas.List.{get_or_read}
use Rattle.fault_definitions.specs.Tree.{FaultTree}
use Rattle.cut_texts.specs.{UnitTexts.spaced, Lines.SpellsSome}
use Rattle.cut_texts.proofs.LineLemmas.{first_end, later_end, kept, start_kept}
use Rattle.cut_texts.proofs.line.Line.keep.Goals as goal
use Rattle.cut_texts.proofs.line.Line.keep.Goals.{then-count-eq0, else-count-eq0}

-- where the names that are kept end
end_is : (c : goal.After-truncate-3) {tree : FaultTree} → SpellsSome tree c.args.self.now
    → c.if-count-eq0.end ≡ c.args.self.now.head
    + length (spaced tree (take c.args.count c.args.self.now.units.items))
end_is c {tree} spells =
    let line = c.args.self.now in
    elim c.if-count-eq0.branch [
      | then-count-eq0 w ↦ first_end tree spells.1 c.args.count (omega arith) w.end-is
      | else-count-eq0 w ↦ later_end tree spells.1 c.args.count (omega arith) c.requires.within
          (w.end-is ∙ get_or_read line.ends.items (c.args.count - 1) w.index.result.now (omega arith) w.index.ensures 0)
    ]

pub returns-clause-line : goal.returns-clause-line
returns-clause-line c tree spells =
    let line = c.args.self.now in
    rw (c.truncate-3.ensures.items, c.truncate-2.ensures.items, c.truncate.ensures.items)
    (kept tree spells.1 c.args.count c.requires.within (end_is c spells))

pub returns-clause-head : goal.returns-clause-head
returns-clause-head c tree spells =
    let line = c.args.self.now in
    record {
      head = refl;
      start =
          ap (take line.head) c.truncate.ensures.items
          ∙ start_kept tree spells.1 c.args.count c.requires.within (end_is c spells);
    }
