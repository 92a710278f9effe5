use Rattle.zdd_product.proofs.ops.Ops.parts.Goals as goal

pub returns : goal.returns
returns c = rw (c.self.view_is) at c.parts.ensures
