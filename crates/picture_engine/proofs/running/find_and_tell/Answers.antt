use Rattle.std.specs.Result.{IfOk}
use Rattle.std.proofs.Common.{refl, subst}
use Rattle.picture_engine.specs.{Finding.IsPictureOf, Finding.text_of, Runs.refused, Runs.told}
use Rattle.picture_engine.proofs.Causes.{picture_for}
use Rattle.picture_engine.proofs.running.find_and_tell.Goals as goal

pub returns-in-Ok-find_picture : goal.returns-in-Ok-find_picture
returns-in-Ok-find_picture g c = record {
  runs =
      told (text_of c.in-Ok-find_picture.picture) (picture_for
      (subst (λ r. IfOk r (IsPictureOf c.args.words.now (g.S.Source.held c.args.source.now)
      (g.S.Source.held c.find_picture.new.source))) c.in-Ok-find_picture.is c.find_picture.ensures.picture))
      c.tell_picture.ensures.told refl;
}

pub returns-in-Err-Refused : goal.returns-in-Err-Refused
returns-in-Err-Refused g c = record {
  runs =
      refused c.in-Err-Refused.refusal refl
      (record {
        cause = rw c.in-Err-Refused.field-0-is at c.in-Err-Refused.ensures.refused;
        silent = refl;
        line = c.tell_refusal.ensures.noted;
      });
}
