use Rattle.std.proofs.Common.{◌∙◌, ap, take}
use Rattle.std.proofs.lemmas.List.{take-take}
use Rattle.fault_words.specs.declared.name_bytes.TheConstants.{SHORT_NAME}
use Rattle.fault_words.proofs.name_bytes.FewBytes.short.Goals as goal

-- what stands behind the first bytes doesn't count
pub returns : goal.returns
returns c =
    ap (take c.args.count) c.copy_from_slice.ensures.after
    ∙ take-take c.args.count SHORT_NAME c.args.text.now c.requires.few
