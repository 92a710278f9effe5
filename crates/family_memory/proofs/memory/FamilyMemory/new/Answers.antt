use Rattle.std.proofs.Common.{◌≡◌, [], ◌∷◌, ◌++◌, ◌∙◌, ap, arith}
use Rattle.family_memory.specs.Memory.{Held}
use Rattle.family_memory.proofs.{Empty.kept_empty, ExtentLemmas.extents_empty}
use Rattle.family_memory.proofs.memory.FamilyMemory.new.Goals as goal

pub invariant_of-result : goal.invariant_of-result
invariant_of-result c =
    let held : Held =
    record { words = c.push_reserved-2.new.self.items; room = c.args.room.nodes; refused = c.new.result } in
    let words : c.push_reserved-2.new.self.items ≡ 0 ∷ 0 ∷ [] =
    c.push_reserved-2.ensures.items ∙ ap (λ l. l ++ 0 ∷ [])
    (c.push_reserved.ensures.items ∙ ap (λ l. l ++ 0 ∷ []) c.in_ok-words.ensures.items) in
    let both : c.push_reserved-4.new.self.items ≡ c.of_none.result ∷ c.of_unit.result ∷ [] =
    c.push_reserved-4.ensures.items ∙ ap (λ l. l ++ c.of_unit.result ∷ [])
    (c.push_reserved-3.ensures.items ∙ ap (λ l. l ++ c.of_none.result ∷ []) c.in_ok-extents.ensures.items) in
    kept_empty words (let e = c.new.ensures in omega (arith, e)) c.requires
    (let e = c.in_ok-words.ensures.exact in let h = c.push_reserved.ensures.capacity in
    let k = c.push_reserved-2.ensures.capacity in omega arith)
    c.in_ok-new-2.ensures (extents_empty c.of_none.ensures c.of_unit.ensures words both)
    (let e = c.in_ok-extents.ensures.exact in let h = c.push_reserved-3.ensures.capacity in
    let k = c.push_reserved-4.ensures.capacity in omega arith)
