use Rattle.std.proofs.Common.{◌≡◌, ◌<◌, ◌∙◌, subst, inl, inr, arith}
use Rattle.zdd_families.specs.Map.{IsClosed}
use Rattle.zdd_shared_table.specs.Seats.{Seated, IsSoundSeat, map_of}
use Rattle.zdd_product.specs.Halves.{IsHalf, IsSplit}
use Rattle.zdd_product.proofs.Halving.{IsHalf-whole, terminal_above, AreSplit, first_lower, second_lower, same_level}
use Rattle.zdd_product.proofs.ops.Ops.halves.Goals as goal
use Rattle.zdd_product.proofs.ops.Ops.halves.Goals.{After-split_node-other-2}

closed_before : {before after : Seated} → after ≡ before → IsSoundSeat after → IsClosed (map_of before)
closed_before same sound = subst (λ (s : Seated). IsClosed (map_of s)) same sound.closed

-- both references were split, the second over the map that the first left as it was
split : (c : After-split_node-other-2) → AreSplit (map_of c.args.self.now) c.args.a c.args.b c.split_node-one.result
    c.split_node-other-2.result
split c =
    let one = c.split_node-one.ensures in
    let other = c.split_node-other-2.ensures in
    let second = c.split_node-other-2.result in
    record {
      closed = closed_before one.seat one.sound;
      knows_a = c.requires.both.first;
      knows_b = c.requires.both.second;
      one_unit = one.unit;
      other_unit = other.unit;
      one_half = one.half;
      one_split = one.split;
      other_half = subst (λ (s : Seated). IsHalf (map_of s) second.level c.args.b second.half) one.seat other.half;
      other_split = subst (λ (s : Seated). IsSplit (map_of s) second.level c.args.b second.half) one.seat other.split;
    }

pub returns-then-number-lt2 : goal.returns-then-number-lt2
returns-then-number-lt2 c =
    let other = c.split_node-other.ensures in
    let small : c.args.a < 2 = let e = c.number.ensures.value in let h = c.if-number-lt2.true in omega (arith, e, h) in
    let closed : IsClosed (map_of c.args.self.now) = closed_before other.seat other.sound in
    record {
      halves = record {
        unit = other.unit;
        first =
            IsHalf-whole closed other.unit c.requires.both.first
            (terminal_above (map_of c.args.self.now) c.split_node-other.result.level c.args.a other.unit small)
            c.whole.ensures;
        second = other.half;
        least = inr other.split;
      };
      seat = other.seat;
      sound = other.sound;
    }

pub returns-then-number-lt2-2 : goal.returns-then-number-lt2-2
returns-then-number-lt2-2 c =
    let one = c.split_node-one.ensures in
    let small : c.args.b < 2 =
    let e = c.number-2.ensures.value in let h = c.if-number-lt2-2.true in omega (arith, e, h) in
    let closed : IsClosed (map_of c.args.self.now) = closed_before one.seat one.sound in
    record {
      halves = record {
        unit = one.unit;
        first = one.half;
        second =
            IsHalf-whole closed one.unit c.requires.both.second
            (terminal_above (map_of c.args.self.now) c.split_node-one.result.level c.args.b one.unit small)
            c.whole-then-number-lt2-2.ensures;
        least = inl one.split;
      };
      seat = one.seat;
      sound = one.sound;
    }

-- the seat after both
after : (c : After-split_node-other-2) → c.split_node-other-2.new.self ≡ c.args.self.now
after c = c.split_node-other-2.ensures.seat ∙ c.split_node-one.ensures.seat

pub returns-then-first-second : goal.returns-then-first-second
returns-then-first-second c =
    let both = (goal.at.returns-then-first-second c).After-split_node-other-2 in
    record {
      halves = first_lower (split both) c.whole-then-first-second.ensures (omega arith);
      seat = after both;
      sound = c.split_node-other-2.ensures.sound;
    }

pub returns-then-second-first : goal.returns-then-second-first
returns-then-second-first c =
    let both = (goal.at.returns-then-second-first c).After-split_node-other-2 in
    record {
      halves = second_lower (split both) c.whole-then-second-first.ensures (omega arith);
      seat = after both;
      sound = c.split_node-other-2.ensures.sound;
    }

pub returns : goal.returns
returns c =
    let both = (goal.at.returns c).After-split_node-other-2 in
    record {
      halves = same_level (split both) (omega arith);
      seat = after both;
      sound = c.split_node-other-2.ensures.sound;
    }
