use Rattle.cutset_listing.proofs.measure.Sizes.put.Goals as goal

pub returns : goal.returns
returns c = λ q. rw (← c.self.view_is) (c.in_ok-insert.ensures.updates.0 q)
