use Rattle.std.proofs.Common.{refl}
use Rattle.outage_engine.proofs.Writable.{listed_of_units}
use Rattle.outage_engine.proofs.listing.list_found.Goals as goal

pub returns-in-Ok-orders_of : goal.returns-in-Ok-orders_of
returns-in-Ok-orders_of g c = record {
  listed = record {
    of_tree = refl;
    list = c.requires.list;
    orders = c.in-Ok-orders_of.ensures.orders;
    few = c.in-Ok-orders_of.ensures.few;
    units =
        listed_of_units c.args.found.cuts c.args.asked.most
        c.requires.list.all c.in-Ok-orders_of.ensures.orders c.in-Ok.ensures;
  };
  root = refl;
  limit = tt;
}
