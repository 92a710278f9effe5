use Rattle.std.proofs.Common.{◌≡◌, ◌+◌, ◌-◌, ◌≤◌, length, arith, ap, ◌∙◌, take, drop}
use Rattle.cut_texts.proofs.LineLemmas.{counted}
use Rattle.cut_texts.proofs.CountingUp.{written, part_long, behind_head, digits_are, head_is}
use Rattle.cut_texts.proofs.line.Line.count_on.Goals as goal

some : (c : goal.After-self-1) → 5 ≤ c.args.self.now.head
some c = c.requires.room (omega arith)

all : (c : goal.After-self-1) → c.args.self.now.text.len ≡ length c.args.self.now.text.items
all c = omega arith

same : (c : goal.After-self-1) → length c.count_up.new.digits ≡ c.args.self.now.head - 1 - 4
same c = omega arith

pub returns-clause-head : goal.returns-clause-head
returns-clause-head c n within starts done =
    let items = c.args.self.now.text.items in
    let shown = c.deref_mut.result.now in
    let new = c.count_up.new.digits in
    let len = c.args.self.now.text.len in
    let head = c.args.self.now.head in
    let is = starts (omega (arith, some c)) in
    let digits =
    digits_are new head c.deref_mut.ensures.value (all c) (some c) c.requires.within (same c) n is in
    ap (take head) (written new head c.deref_mut.ensures.value (all c) (some c) c.requires.within (same c))
    ∙ head_is new head c.deref_mut.ensures.value (all c) (some c) c.requires.within (same c) n is (n + 1)
    (c.count_up.ensures.counted n within digits done)

pub returns-clause-names : goal.returns-clause-names
returns-clause-names c tree tail spells =
    let line = c.args.self.now in
    let items = c.args.self.now.text.items in
    let shown = c.deref_mut.result.now in
    let new = c.count_up.new.digits in
    let len = c.args.self.now.text.len in
    let head = c.args.self.now.head in
    let is = written new head c.deref_mut.ensures.value (all c) (some c) c.requires.within (same c) in
    counted tree spells (ap (drop head) is
    ∙ behind_head new head c.deref_mut.ensures.value (all c) (some c) c.requires.within (same c)) (ap length is
    ∙ part_long new head c.deref_mut.ensures.value (all c) (some c) c.requires.within (same c))
