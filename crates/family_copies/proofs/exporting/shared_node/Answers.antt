use Rattle.std.proofs.Common.{ℕ, ◌≡◌, ◌∙◌}
use Rattle.zdd_words.specs.Word.{packed}
use Rattle.zdd_families.specs.{Family.branch, Map.Knows, Map.family}
use Rattle.zdd_shared_table.specs.Seats.{map_of}
use Rattle.zdd_product.specs.Seats.{word_family}
use Rattle.zdd_product.proofs.After.{stays, node_made, word_family-packed}
use Rattle.family_copies.proofs.exporting.shared_node.Goals as goal

pub returns : goal.returns
returns c =
    let old = map_of c.args.ops.now in
    let new = map_of c.node.new.self in
    let at : (r : ℕ) → Knows old r → family new r ≡ family old r =
    λ r knows. (stays c.args.ops.now c.node.new.self r c.is_sound.ensures.sound c.node.ensures.sound
    c.node.ensures.keeps knows).1 in
    let packed_is : word_family new (packed c.args.level c.args.lo c.args.hi)
    ≡ branch c.args.level (family old c.args.lo) (family old c.args.hi) =
    word_family-packed new c.args.level c.args.lo c.args.hi c.number.ensures.small c.number-2.ensures.small
    ∙ (λ i. branch c.args.level (at c.args.lo c.requires.has_lo i) (at c.args.hi c.requires.has_hi i)) in
    node_made c.args.ops.now c.node.new.self (packed c.args.level c.args.lo c.args.hi)
    c.node.ensures.store c.node.ensures.share c.node.ensures.keeps c.node.ensures.sound packed_is c.node.result
    c.node.ensures.family c.node.ensures.fills c.node.ensures.fulls c.node.ensures.missed
