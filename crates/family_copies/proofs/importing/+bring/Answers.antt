use Rattle.std.proofs.Common.{sym, ◌∙◌, subst, arith}
use Rattle.std.proofs.lemmas.Result.{err_from_is_err_and}
use Rattle.zdd_families.specs.Map.{Knows}
use Rattle.family_memory.proofs.After.{RanOut-then}
use Rattle.zdd_shared_table.specs.Seats.{Seated, map_of}
use Rattle.family_copies.specs.Copies.{AreCopies}
use Rattle.family_copies.proofs.Bringing.{terminal_there, copy_there, copy_made, lo_antichain, hi_antichain, lo_fewer}
use Rattle.family_copies.proofs.Bringing.{hi_fewer, can_make, branch_antichain, brought, copies_kept}
use Rattle.family_copies.proofs.importing.+bring.Goals as goal

pub bring-returns-then-number-lt2-clause-answer : goal.bring-returns-then-number-lt2-clause-answer
bring-returns-then-number-lt2-clause-answer t c =
    terminal_there (map_of c.args.ops.now) c.is_sound.ensures
    (let e = c.number.ensures.value in let h = c.if-number-lt2.true in omega (arith, e, h))

pub bring-returns-in-Some-clause-answer : goal.bring-returns-in-Some-clause-answer
bring-returns-in-Some-clause-answer t c =
    copy_there (map_of c.args.ops.now) c.args.copies.now c.is_sound.ensures c.requires.copies c.in-Some.ensures
    (let e = c.number.ensures.value in let h = c.if-number-lt2.false in omega (arith, e, h))

pub bring-returns-clause-copies : goal.bring-returns-clause-copies
bring-returns-clause-copies t c =
    subst (AreCopies c.bring_node.new.memory (map_of c.args.ops.now)) (sym c.enter.ensures)
    (c.note.ensures c.bring_node.new.memory (map_of c.args.ops.now) (copy_made (map_of c.args.ops.now) c.args.r
    c.requires.knows c.in_ok-own.ensures.answer) c.in_ok-own.ensures.copies)

pub bring_node-bring-requires : goal.bring_node-bring-requires
bring_node-bring-requires t c =
    let seat = c.args.ops.now in
    let closed = c.is_sound-2.ensures.sound.closed in
    let parts = c.parts_of-parts.result in
    let are = c.parts_of-parts.ensures.parts in
    let same1 = c.parts_of-parts.ensures.seat in
    let seat1 = c.parts_of-parts.new.ops in
    let fewer = lo_fewer seat closed c.args.r parts c.requires.antichain are same1 in (
      omega (arith, fewer),
      (
        subst (λ (s : Seated). Knows (map_of s) parts.lo) (sym same1) are.knows_lo,
        (
          lo_antichain seat closed c.args.r parts c.requires.antichain are same1,
          subst (λ (s : Seated). AreCopies c.args.memory.now (map_of s) c.args.copies.now) (sym same1)
              c.requires.copies,
        ),
      ),
    )

pub bring_node-bring-requires-2 : goal.bring_node-bring-requires-2
bring_node-bring-requires-2 t c =
    let seat = c.args.ops.now in
    let closed = c.is_sound-2.ensures.sound.closed in
    let parts = c.parts_of-parts.result in
    let are = c.parts_of-parts.ensures.parts in
    let same2 = c.in_ok-lo.ensures.seat ∙ c.parts_of-parts.ensures.seat in
    let seat2 = c.bring.new.ops in
    let fewer = hi_fewer seat closed c.args.r parts c.requires.antichain are same2 in (
      omega (arith, fewer),
      (
        subst (λ (s : Seated). Knows (map_of s) parts.hi) (sym same2) are.knows_hi,
        (
          hi_antichain seat closed c.args.r parts c.requires.antichain are same2,
          subst (λ (s : Seated). AreCopies c.bring.new.memory (map_of s) c.bring.new.copies)
              (sym c.in_ok-lo.ensures.seat)
              c.in_ok-lo.ensures.copies,
        ),
      ),
    )

pub bring_node-returns-in_err-hi-clause-answer : goal.bring_node-returns-in_err-hi-clause-answer
bring_node-returns-in_err-hi-clause-answer t c =
    let p = err_from_is_err_and c.from_residual-in_err-hi.result c.from_residual-in_err-hi.ensures.1 in
    rw p.1 (RanOut-then c.bring-2.new.memory c.in_ok-lo.ensures.answer.went c.in_err-hi.ensures.answer)

pub bring_node-own_node-requires-clause-can_make : goal.bring_node-own_node-requires-clause-can_make
bring_node-own_node-requires-clause-can_make t c =
    let same1 = c.parts_of-parts.ensures.seat in
    can_make c.args.ops.now c.is_sound-2.ensures.sound.closed c.args.r c.parts_of-parts.result
    c.requires.antichain
    c.parts_of-parts.ensures.parts same1 (c.in_ok-lo.ensures.seat ∙ same1) c.in_ok-lo.ensures.answer
    c.in_ok-hi.ensures.answer

pub bring_node-own_node-requires-clause-antichain : goal.bring_node-own_node-requires-clause-antichain
bring_node-own_node-requires-clause-antichain t c =
    let same1 = c.parts_of-parts.ensures.seat in
    branch_antichain c.args.ops.now c.is_sound-2.ensures.sound.closed c.args.r c.parts_of-parts.result
    c.requires.antichain
    c.parts_of-parts.ensures.parts same1 (c.in_ok-lo.ensures.seat ∙ same1) c.in_ok-lo.ensures.answer
    c.in_ok-hi.ensures.answer

pub bring_node-returns-clause-answer : goal.bring_node-returns-clause-answer
bring_node-returns-clause-answer t c =
    let same1 = c.parts_of-parts.ensures.seat in
    brought c.args.ops.now c.is_sound-2.ensures.sound.closed c.args.r c.parts_of-parts.result
    c.requires.antichain
    c.parts_of-parts.ensures.parts same1 (c.in_ok-lo.ensures.seat ∙ same1) c.in_ok-lo.ensures.answer
    c.in_ok-hi.ensures.answer c.own_node.new.memory c.own_node.result c.own_node.ensures

pub bring_node-returns-clause-copies : goal.bring_node-returns-clause-copies
bring_node-returns-clause-copies t c =
    let same1 = c.parts_of-parts.ensures.seat in
    copies_kept c.args.ops.now c.is_sound-2.ensures.sound.closed c.args.r c.parts_of-parts.result
    c.requires.antichain
    c.parts_of-parts.ensures.parts same1 (c.in_ok-lo.ensures.seat ∙ same1) c.in_ok-lo.ensures.answer
    c.in_ok-hi.ensures.answer c.own_node.new.memory c.own_node.result c.own_node.ensures c.bring-2.new.copies
    c.in_ok-hi.ensures.copies
