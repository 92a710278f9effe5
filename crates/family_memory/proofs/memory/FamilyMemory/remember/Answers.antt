use Rattle.std.proofs.Common.{sym, subst}
use Rattle.family_memory.specs.{Memory.Held, Answers.IsTold}
use Rattle.family_memory.proofs.Entries.{told_more}
use Rattle.family_memory.proofs.memory.FamilyMemory.remember.Goals as goal

pub invariant_of-self : goal.invariant_of-self
invariant_of-self c =
    let held : Held =
    record { words = c.self.inside.words.items; room = c.self.inside.room; refused = c.self.inside.refused } in
    record {
      sound = c.self.invariant.sound;
      few = c.self.invariant.few;
      taken = c.self.invariant.taken;
      told =
          told_more c.args.entry c.self.inside.answers c.keep.new.self c.self.invariant.sound
          (subst (λ (m : Held). IsTold m c.args.entry) (sym c.self.view_is) c.requires) c.self.invariant.told
          c.keep.ensures;
      reach = c.self.invariant.reach;
      reach_taken = c.self.invariant.reach_taken;
    }
