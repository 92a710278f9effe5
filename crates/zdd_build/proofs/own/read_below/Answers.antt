use Rattle.std.proofs.Common.{◌≡◌, ◌∙◌, ◌<◌, ◌≤◌, ℕ, List, length, get_or, subst, sym, ap, arith}
use Rattle.std.proofs.Common.{length-set}
use Rattle.std.proofs.lemmas.List.{get_or_read}
use Rattle.fault_definitions.specs.{Trigger.below, CutFamily.IsCutFamily}
use Rattle.family_memory.specs.Memory.{family_in}
use Rattle.family_memory.proofs.After.{Went-then}
use Rattle.zdd_nodes.specs.{Room.HaveRoomFor, declared.rooms.Rooms.Rooms}
use Rattle.zdd_shared_table.specs.Seats.{Seated, map_of}
use Rattle.zdd_build.specs.Building.{HasFamily}
use Rattle.zdd_build.proofs.OwnReferences.{AreRead}
use Rattle.zdd_build.proofs.OwnLemmas.{all_has, all_stand, read_more}
use Rattle.zdd_build.proofs.own.read_below.Goals as goal

pub loop-i-preserved : goal.loop-i-preserved
loop-i-preserved c =
    let tree = c.args.tree.now in
    let nodes = below tree c.args.node in
    let inv = c.loop-i.invariant in
    let i = c.loop-i.i in
    let rooms = c.read_one.new.worker.rooms in
    let list = rooms.list.items in
    let before = c.loop-i.worker.memory in
    let after = c.read_one.new.worker.memory in
    let r = c.in_ok-own.own in
    let all = ap (λ (l : List ℕ). length l) c.below-nodes.ensures.below in
    let room : HaveRoomFor tree rooms = subst (HaveRoomFor tree) (sym c.read_one.ensures.rooms) inv.equipped.rooms in
    let within : i < length list =
    (let h = room.list c.args.node c.requires.reads.is_node in let t = c.loop-i-test.true in
    omega (arith, h, t, all)) in
    let same : c.index-nodes-i.result ≡ get_or nodes i 0 =
    get_or_read c.below-nodes.result.now i c.index-nodes-i.result c.loop-i-test.true c.index-nodes-i.is 0
    ∙ ap (λ (l : List ℕ). get_or l i 0) c.below-nodes.ensures.below in
    record {
      went = Went-then inv.went c.in_ok-own.ensures.gives.went;
      read =
          read_more inv.went.sound c.in_ok-own.ensures.gives.went nodes list i r within
          (subst (λ (q : Rooms). AreRead before tree nodes q.list.items i) (sym c.read_one.ensures.rooms) inv.read)
          c.in_ok-own.ensures.gives.has (subst (λ (n : ℕ). IsCutFamily tree n (family_in after r)) same
          c.in_ok-own.ensures.gives.is);
      equipped =
          record {
            copies = c.read_one.ensures.copies;
            rooms =
                record {
                  list =
                      λ n is. subst (λ (k : ℕ). length (below tree n) ≤ k) (sym (length-set list i r)) (room.list n is);
                  votes = room.votes;
                };
          };
      keeps =
          record {
            ops = c.read_one.ensures.keeps.ops ∙ inv.keeps.ops;
            found = c.read_one.ensures.keeps.found ∙ inv.keeps.found;
            full = c.read_one.ensures.keeps.full ∙ inv.keeps.full;
          };
    }

pub read_one-requires-clause-knows : goal.read_one-requires-clause-knows
read_one-requires-clause-knows c =
    let nodes = below c.args.tree.now c.args.node in
    let same : c.index-nodes-i.result ≡ get_or nodes c.loop-i.i 0 =
    get_or_read c.below-nodes.result.now c.loop-i.i c.index-nodes-i.result c.loop-i-test.true c.index-nodes-i.is 0
    ∙ ap (λ (l : List ℕ). get_or l c.loop-i.i 0) c.below-nodes.ensures.below in
    let all = ap (λ (l : List ℕ). length l) c.below-nodes.ensures.below in
    subst (λ (s : Seated). HasFamily (map_of s) c.args.tree.now c.args.references.now c.index-nodes-i.result)
    (sym c.loop-i.invariant.keeps.ops)
    (subst (λ (n : ℕ). HasFamily (map_of c.args.worker.now.ops) c.args.tree.now c.args.references.now n) (sym same)
    (c.requires.reads.below c.loop-i.i 0 (let t = c.loop-i-test.true in omega (arith, t, all))))

pub returns-clause-has : goal.returns-clause-has
returns-clause-has c =
    all_has c.loop-i.worker.memory c.args.node c.requires.reads.is_node
    c.loop-i.invariant.equipped.rooms c.loop-i.i (let t = c.loop-i-test.false in
    let e = ap (λ (l : List ℕ). length l) c.below-nodes.ensures.below in omega (arith, t, e)) c.loop-i.invariant.read

pub returns-clause-stand : goal.returns-clause-stand
returns-clause-stand c =
    all_stand c.loop-i.worker.memory c.args.node c.requires.reads.is_node
    c.loop-i.invariant.equipped.rooms c.loop-i.i (let t = c.loop-i-test.false in
    let e = ap (λ (l : List ℕ). length l) c.below-nodes.ensures.below in omega (arith, t, e)) c.loop-i.invariant.read
