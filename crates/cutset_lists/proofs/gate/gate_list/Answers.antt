use Rattle.std.proofs.{Common.subst, Common.sym, lemmas.Result.on_ok_weaker}
use Rattle.fault_words.specs.declared.kind.GateKind.{GateKind}
use Rattle.cutset_lists.specs.Generation.{Follows, gate_rule}
use Rattle.cutset_lists.proofs.GateLemmas.{or_list, por_list}
use Rattle.cutset_lists.proofs.gate.gate_list.Goals as goal

pub returns-in-Or : goal.returns-in-Or
returns-in-Or c =
    on_ok_weaker c.some_of.result (λ adds. subst (λ (k : GateKind).
    Follows c.args.lists.now (gate_rule k c.args.inputs.now) c.some_of.new.sets) (sym c.in-Or.is)
    (or_list c.requires.none adds)) c.some_of.ensures

pub returns-in-Por : goal.returns-in-Por
returns-in-Por c =
    on_ok_weaker c.some_of-in-Por.result (λ adds. subst (λ (k : GateKind).
    Follows c.args.lists.now (gate_rule k c.args.inputs.now) c.some_of-in-Por.new.sets) (sym c.in-Por.is)
    (por_list c.args.inputs.now c.requires.none c.first_of.ensures adds)) c.some_of-in-Por.ensures
