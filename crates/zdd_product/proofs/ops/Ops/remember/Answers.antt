use Rattle.std.proofs.Common.{sym, ap, subst}
use Rattle.zdd_shared_table.specs.Seats.{map_of}
use Rattle.zdd_product.specs.Told.{Tells}
use Rattle.zdd_product.proofs.Entries.{told_more}
use Rattle.zdd_product.proofs.ops.Ops.remember.Goals as goal

pub invariant_of-self : goal.invariant_of-self
invariant_of-self c =
    let known = map_of c.self.inside.seat in
    let told : Tells known c.args.operation c.args.a c.args.b c.args.answer =
    subst (λ m. Tells m c.args.operation c.args.a c.args.b c.args.answer) (sym (ap map_of c.self.view_is)) c.requires in
    record {
      own = c.self.invariant.own;
      sound = c.self.invariant.sound;
      told =
          told_more known
          (record {
            question = record { operation = c.args.operation; first = c.args.a; second = c.args.b };
            answer = c.args.answer;
          })
          c.self.inside.answers c.keep.new.self told c.self.invariant.told c.keep.ensures;
    }
