use Rattle.std.proofs.Common.{◌-◌, is_ok, vec_len}
use Rattle.kept_answers.proofs.Keeping.{kept_from_none}
use Rattle.kept_answers.proofs.answers.Answers.new.Goals as goal

pub returns : goal.returns
returns c =
    let entries = c.in_ok-entries.entries in
    kept_from_none (is_ok c.resize.result) c.min.result (c.min.result - vec_len entries) c.in_ok-entries.ensures.items
    c.resize.ensures.items
