use Rattle.kept_answers.proofs.Keeping.{kept_itself}
use Rattle.kept_answers.proofs.answers.Answers.make_room.Goals as goal

pub returns-else-self-len : goal.returns-else-self-len
returns-else-self-len c = kept_itself c.args.self.now
