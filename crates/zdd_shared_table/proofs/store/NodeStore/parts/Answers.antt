use Rattle.std.proofs.Common.{◌≡◌, ◌≢◌, ◌+◌, ◌-◌, ◌<◌, sym, ◌∙◌, ap, subst, arith}
use Rattle.zdd_shared_table.specs.{Known.find, Seats.map_of}
use Rattle.zdd_shared_table.proofs.Nodes.{inner_known, HasParts, has_parts}
use Rattle.zdd_shared_table.proofs.{Steps.allows_read, store.NodeStore.parts.Goals.After-unpack}
use Rattle.zdd_shared_table.proofs.store.NodeStore.parts.Goals as goal

pub load-word-requires : goal.load-word-requires
load-word-requires c =
    let seat = c.seat.inside.place in
    let id = c.self.inside.table.shared.table_id in
    let own : seat.table_id ≡ id = ap (λ s. s.store) c.seat.view_is ∙ (c.requires.own ∙ sym c.self.view_is) in
    let is : find seat.me.0.known ≡ map_of c.args.seat.now = ap map_of c.seat.view_is in
    let within : c.args.r < seat.me.0.size + 2 =
    c.seat.invariant.sound.within c.args.r (subst (λ m. m c.args.r ≢ 0) (sym is)
    (inner_known (map_of c.args.seat.now) c.args.r c.requires.knows c.requires.inner)) in
    let sized = c.seat.invariant.sized in
    let words : seat.table_id.words ≡ id.words = ap (λ t. t.words) own in
    let inside : c.number.result - 2 < id.words =
    let n = c.number.ensures.value in let large = c.requires.inner in omega arith in
    (own, inside, allows_read c.self.inside.table.shared.key id.slots seat.id seat.me.0 seat.me.1 (c.number.result - 2))

parts_of : (c : After-unpack) → HasParts (map_of c.args.seat.now) (find c.load-word.new.seat.me.0.known) c.args.r
    c.unpack.result.level c.unpack.result.lo c.unpack.result.hi
parts_of c =
    let seat = c.seat.inside.place in
    let is : find seat.me.0.known ≡ map_of c.args.seat.now = ap map_of c.seat.view_is in
    let after : find seat.me.0.known ≡ find c.load-word.new.seat.me.0.known =
    ap (λ v. find v.known) (sym c.load-word.ensures.2.0) in
    let has : find seat.me.0.known c.args.r ≢ 0 =
    subst (λ m. m c.args.r ≢ 0) (sym is)
    (inner_known (map_of c.args.seat.now) c.args.r c.requires.knows c.requires.inner) in
    let at : (c.number.result - 2) + 2 ≡ c.args.r =
    let n = c.number.ensures.value in let large = c.requires.inner in omega arith in
    let word : c.load-word.result ≡ find seat.me.0.known c.args.r =
    c.load-word.ensures.2.2 (λ none. has (ap (find seat.me.0.known) (sym at) ∙ none)) ∙ ap (find seat.me.0.known) at in
    has_parts c.args.r
    c.seat.invariant.sound.closed has is after word c.unpack.ensures.level c.unpack.ensures.lo c.unpack.ensures.hi

pub returns-clause-level : goal.returns-clause-level
returns-clause-level c = (parts_of c).least

pub returns-clause-lo : goal.returns-clause-lo
returns-clause-lo c = (parts_of c).without

pub returns-clause-hi : goal.returns-clause-hi
returns-clause-hi c = (parts_of c).with_it

pub returns-clause-branch : goal.returns-clause-branch
returns-clause-branch c = (parts_of c).branches

pub returns-clause-lo_above : goal.returns-clause-lo_above
returns-clause-lo_above c = (parts_of c).lo_above

pub returns-clause-hi_above : goal.returns-clause-hi_above
returns-clause-hi_above c = (parts_of c).hi_above
