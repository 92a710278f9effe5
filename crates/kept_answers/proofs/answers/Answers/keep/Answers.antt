use Rattle.std.proofs.Common.{subst, sym}
use Rattle.kept_answers.specs.Kept.{AreKept}
use Rattle.kept_answers.proofs.Keeping.{kept_more, kept_put}
use Rattle.kept_answers.proofs.answers.Answers.keep.Goals as goal

pub returns-then-place-len : goal.returns-then-place-len
returns-then-place-len c =
    kept_put c.args.entry c.args.self.now c.self.inside.entries.items c.place_of-place.result
    (subst (AreKept c.args.self.now) (sym c.self.view_is) c.make_room.ensures)

pub returns-else-place-len : goal.returns-else-place-len
returns-else-place-len c =
    kept_more c.args.entry c.args.self.now c.self.inside.entries.items
    (subst (AreKept c.args.self.now) (sym c.self.view_is) c.make_room.ensures)
