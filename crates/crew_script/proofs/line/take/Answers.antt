use Rattle.std.proofs.Common.{◌≡◌, ◌<◌, true, false, length, sym, ap, subst, ◌∙◌, arith}
use Rattle.std.proofs.lemmas.Grind.{common_steps}
use Rattle.fault_words.specs.Names.{has_name, all_differ}
use Rattle.crew_script.specs.Lines.{take_line}
use Rattle.crew_script.proofs.NameLemmas.{take_step, differ_push}
use Rattle.crew_script.proofs.line.take.Goals as goal

pub loop-word-preserved : goal.loop-word-preserved
loop-word-preserved c =
    let names = c.loop-word.names.items in
    let name = c.in-Some-2.name in
    let items = c.in_ok-push.ensures.items in
    let first = sym c.next.ensures.word ∙ c.in-Some.is in
    let named = sym c.in_ok-name.ensures ∙ c.in-Some-2.is in
    let few : length names < 16 =
    grind (arith, common_steps, c.loop-word.invariant.few, c.len.ensures, c.if-len-eq-MOST_TAKEN.false) in
    let new : has_name names name ≡ false =
    grind (arith, common_steps, c.is_among.ensures, c.if-is_among.false, c.deref.ensures.value) in
    record {
      same = take_step names _ _ name c.loop-word.invariant.same first c.next.ensures.rest named few new
          ∙ ap (λ l. take_line l c.next.new.self) (sym items);
      few = grind (arith, common_steps, items, few);
      differ =
          subst (λ l. all_differ l ≡ true) (sym items) (differ_push names name c.loop-word.invariant.differ new);
    }
