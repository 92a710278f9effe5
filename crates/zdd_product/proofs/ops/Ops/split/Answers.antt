use Rattle.std.proofs.Common.{◌∙◌, All, ap, subst, sym}
use Rattle.zdd_shared_table.specs.Seats.{Seated, map_of}
use Rattle.zdd_product.specs.Told.{IsTold}
use Rattle.zdd_product.proofs.ops.Ops.split.Goals as goal

pub returns : goal.returns
returns c = rw (c.self.view_is) at c.split.ensures

pub invariant_of-self : goal.invariant_of-self
invariant_of-self c = record {
  own = ap (λ (s : Seated). s.store) c.split.ensures.seat ∙ c.self.invariant.own;
  sound = c.split.ensures.sound.1;
  told =
      subst (λ (s : Seated). All (IsTold (map_of s)) c.self.inside.answers) (sym c.split.ensures.seat)
      c.self.invariant.told;
}
