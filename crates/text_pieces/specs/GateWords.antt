-- The word of a gate's kind.
use Rattle.std.specs.Prelude.{ℕ, List, ◌++◌, codes, decimal}
use Rattle.fault_words.specs.declared.kind.GateKind.{GateKind}
use Rattle.fault_words.specs.declared.kind.GateKind.TheVariants.{And, Or, Votes, Pand, Por, Seq, Fdep, Csp, Wsp, Hsp}

-- the word of a gate
abbrev pub gate_word : GateKind → List ℕ
gate_word And = codes "and"
gate_word Or = codes "or"
gate_word (Votes least inputs) = decimal least ++ (codes "of" ++ decimal inputs)
gate_word Pand = codes "pand"
gate_word Por = codes "por"
gate_word Seq = codes "seq"
gate_word Fdep = codes "fdep"
gate_word Csp = codes "csp"
gate_word Wsp = codes "wsp"
gate_word Hsp = codes "hsp"
