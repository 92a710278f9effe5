use Rattle.std.proofs.Common.{◌-◌, refl, sym, subst, arith, length-set}
use Rattle.zdd_shared_table.specs.Seats.{map_of}
use Rattle.zdd_product.specs.Seats.{KnowsOne}
use Rattle.zdd_product.proofs.After.{WentOn-nowhere}
use Rattle.path_sets.specs.{Due.IsDueToPaths, Paths.IsPathFamily}
use Rattle.path_sets.proofs.RootLemmas.{put_others, put_own}
use Rattle.path_sets.proofs.root.make_one.Goals as goal

pub returns-then-is_fdep-clause-made : goal.returns-then-is_fdep-clause-made
returns-then-is_fdep-clause-made c = record {
  on = WentOn-nowhere (IsDueToPaths c.args.tree.now) c.args.ops.now c.is_sound.ensures.sound;
  made = λ read. absurd (let t = c.if-is_fdep.true in let e = c.is_fdep.ensures in cc);
  others = λ other some apart. refl;
  size = refl;
}

pub returns-clause-made : goal.returns-clause-made
returns-clause-made c =
    let tree = c.args.tree.now in
    let node = c.args.node in
    let list = c.args.references.now in
    let gave = c.in_ok-family.ensures.gives in
    let high = c.requires.node.1 in
    let all = c.requires.all in
    rw c.index.ensures (record {
      on = gave.on;
      made = λ read. subst (λ r. KnowsOne (map_of c.path_family.new.ops) r (IsPathFamily tree node))
          (sym (put_own list node c.in_ok-family.family c.requires.node.0 (omega (arith, high, all)))) gave.known;
      others = put_others list node c.in_ok-family.family c.requires.node.0 (omega (arith, high, all));
      size = length-set list (node - 1) c.in_ok-family.family;
    })
