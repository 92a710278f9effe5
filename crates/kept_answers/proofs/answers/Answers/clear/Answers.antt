use Rattle.std.proofs.Common.{◌-◌, is_ok, vec_len}
use Rattle.kept_answers.proofs.Keeping.{kept_from_none}
use Rattle.kept_answers.proofs.answers.Answers.clear.Goals as goal

pub returns : goal.returns
returns c =
    let entries = c.clear.new.self in
    kept_from_none (is_ok c.resize.result) c.min-few.result (c.min-few.result - vec_len entries) c.clear.ensures.items
    c.resize.ensures.items
