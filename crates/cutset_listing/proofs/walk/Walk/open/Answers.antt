use Rattle.std.proofs.Common.{rules, ◌≡◌, ◌≢◌, ◌∙◌, [], ap, length, refl}
use Rattle.zdd_families.{specs.Map.family, proofs.Canonical.family-filled}
use Rattle.zdd_shared_table.specs.Seats.{map_of}
use Rattle.cutset_listing.specs.{declared.walk.Walk.Walk, Visits.with_later}
use Rattle.cutset_listing.proofs.Walks.{Opens, opens_fewer, opens_to}
use Rattle.cutset_listing.proofs.walk.Walk.open.Goals.{In_ok-push}
use Rattle.cutset_listing.proofs.walk.Walk.open.Goals as goal

abbrev new_walk : In_ok-push → Walk
new_walk c = record {
  path = c.push.new.self;
  pending = c.put_off.new.pending;
  found = c.args.self.now.found;
  weight = c.args.self.now.weight;
}

opened : (c : In_ok-push) → Opens (map_of c.args.seat.now) c.args.self.now (new_walk c) c.args.node
    c.parts-parts.result.level c.parts-parts.result.lo c.parts-parts.result.hi
opened c =
    let seat = c.parts-parts.ensures.seat in
    let long : c.len.result ≡ length c.args.self.now.path.items = search rules in
    record {
      parts = rw seat at c.parts-parts.ensures.branch;
      knows_lo = rw seat at c.parts-parts.ensures.lo.0;
      knows_hi = rw seat at c.parts-parts.ensures.hi.0;
      path = c.in_ok-push.ensures.items;
      pending = c.in_ok-put_off.ensures ∙ ap (λ n. with_later c.args.self.now.pending.items
          (record { node = c.parts-parts.result.lo; before = n })) long;
      found = refl;
      weight = refl;
    }

filled : (c : In_ok-push) → family (map_of c.args.seat.now) c.parts-parts.result.hi ≢ []
filled c =
    let seat = c.parts-parts.ensures.seat in
    family-filled _ c.parts-parts.result.hi (rw seat at c.parts-parts.ensures.sound.closed)
    (rw seat at c.parts-parts.ensures.hi.0) c.parts-parts.ensures.filled

pub returns-clause-on : goal.returns-clause-on
returns-clause-on c = opens_to (opened c) (filled c)

pub returns-clause-fewer : goal.returns-clause-fewer
returns-clause-fewer c = opens_fewer (opened c) (filled c)
