use Rattle.std.proofs.Common.{◌∙◌}
use Rattle.cut_texts.proofs.Listing.{two_numbers}
use Rattle.cut_texts.proofs.cuts.put_two.Goals as goal

pub returns-clause-puts : goal.returns-clause-puts
returns-clause-puts g c =
    two_numbers c.args.front.now c.args.middle.now
    c.args.back.now (c.as_bytes.ensures.value ∙ c.format.ensures.text)
    (c.as_bytes-2.ensures.value ∙ c.format-2.ensures.text)
    c.put_all.ensures.puts
