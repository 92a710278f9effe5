use Rattle.std.proofs.Common.{◌<◌, arith}
use Rattle.std.proofs.lemmas.Result.{err_from_is_err_and}
use Rattle.family_memory.specs.Memory.{map_of as own_map}
use Rattle.zdd_shared_table.specs.Seats.{map_of}
use Rattle.family_copies.proofs.Parting.{levels_above}
use Rattle.family_copies.proofs.Sending.{terminal_known, copy_known, copy_sent, hi_fewer, lo_full, hi_full}
use Rattle.family_copies.proofs.Sending.{can_make, sent, copies_kept}
use Rattle.family_copies.proofs.exporting.+send.Goals as goal

pub send-returns-then-number-lt2-clause-answer : goal.send-returns-then-number-lt2-clause-answer
send-returns-then-number-lt2-clause-answer t c =
    terminal_known c.args.memory.now c.args.r c.args.ops.now c.is_sound-2.ensures.sound
    (let e = c.number.ensures.value in let h = c.if-number-lt2.true in omega (arith, e, h))

pub send-returns-then-ne-clause-answer : goal.send-returns-then-ne-clause-answer
send-returns-then-ne-clause-answer t c =
    copy_known c.args.memory.now c.args.r c.args.ops.now c.is_sound-2.ensures.sound c.args.copies.now c.requires.copies
    c.shared_of-noted.ensures
    (λ none. let e = c.ne.ensures in let h = c.if-ne.true in grind (arith, e, h, none))

pub send-returns-clause-copies : goal.send-returns-clause-copies
send-returns-clause-copies t c =
    c.note.ensures c.args.memory.now (map_of c.send_node.new.ops) (copy_sent c.args.memory.now
    c.args.r c.requires.has c.in_ok-shared.ensures.answer) c.in_ok-shared.ensures.copies

pub send_node-returns-in_err-lo-clause-answer : goal.send_node-returns-in_err-lo-clause-answer
send_node-returns-in_err-lo-clause-answer t c =
    let p = err_from_is_err_and c.from_residual.result c.from_residual.ensures.1 in
    rw p.1 (lo_full c.args.memory.now c.args.r c.parts-parts.result c.is_sound.ensures c.parts-parts.ensures
    c.in_err-lo.ensures.answer)

pub send_node-send-requires-2 : goal.send_node-send-requires-2
send_node-send-requires-2 t c =
    let held = c.args.memory.now in
    let fewer : levels_above (own_map held) c.parts-parts.result.hi < levels_above (own_map held) c.args.r =
    hi_fewer c.args.memory.now c.args.r c.parts-parts.result c.is_sound.ensures c.parts-parts.ensures in
    (omega (arith, fewer), (c.parts-parts.ensures.has_hi, c.in_ok-lo.ensures.copies))

pub send_node-returns-in_err-hi-clause-answer : goal.send_node-returns-in_err-hi-clause-answer
send_node-returns-in_err-hi-clause-answer t c =
    let p = err_from_is_err_and c.from_residual-in_err-hi.result c.from_residual-in_err-hi.ensures.1 in
    rw p.1 (hi_full c.args.memory.now c.args.r c.parts-parts.result c.is_sound.ensures c.parts-parts.ensures
    c.in_ok-lo.ensures.answer
    c.in_err-hi.ensures.answer)

pub send_node-shared_node-requires : goal.send_node-shared_node-requires
send_node-shared_node-requires t c =
    can_make c.args.memory.now c.args.r c.parts-parts.result c.is_sound.ensures c.parts-parts.ensures
    c.in_ok-lo.ensures.answer c.in_ok-hi.ensures.answer

pub send_node-returns-clause-answer : goal.send_node-returns-clause-answer
send_node-returns-clause-answer t c =
    sent c.args.memory.now c.args.r c.parts-parts.result c.is_sound.ensures c.parts-parts.ensures
    c.in_ok-lo.ensures.answer c.in_ok-hi.ensures.answer
    c.shared_node.new.ops c.shared_node.result c.shared_node.ensures

pub send_node-returns-clause-copies : goal.send_node-returns-clause-copies
send_node-returns-clause-copies t c =
    copies_kept c.args.memory.now c.args.r c.parts-parts.result c.is_sound.ensures c.parts-parts.ensures
    c.in_ok-lo.ensures.answer c.in_ok-hi.ensures.answer
    c.shared_node.new.ops c.shared_node.result c.shared_node.ensures c.send-2.new.copies c.in_ok-hi.ensures.copies
