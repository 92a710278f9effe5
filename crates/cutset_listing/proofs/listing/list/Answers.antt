use Rattle.std.proofs.Common.{◌≡◌, ◌<◌, sym, subst, arith}
use Rattle.std.proofs.lemmas.Result.{IfOk-weaker}
use Rattle.unit_sets.specs.CutOrder.{weight, weight_limit}
use Rattle.zdd_families.specs.Map.{family}
use Rattle.zdd_families.proofs.Canonical.{IsFamily-family}
use Rattle.zdd_shared_table.specs.Seats.{map_of}
use Rattle.cutset_listing.specs.{BySize.joined, Listing.HasSetsOf}
use Rattle.cutset_listing.proofs.HeavyLists.{heavy_list}
use Rattle.cutset_listing.proofs.Sizes.{joined-sets, joined-in_order, joined-rising, joined-filled, weight-joined}
use Rattle.cutset_listing.proofs.listing.list.Goals as goal

pub cut_list-requires-clause-filled : goal.cut_list-requires-clause-filled
cut_list-requires-clause-filled c = joined-filled c.in_ok-found.found _ c.in_ok-found.ensures.sets c.requires.filled

pub cut_list-requires-clause-rising : goal.cut_list-requires-clause-rising
cut_list-requires-clause-rising c =
    joined-rising c.in_ok-found.found _ c.in_ok-found.ensures.sets
    (IsFamily-family _ c.args.root c.is_sound.ensures.sound.closed c.requires.knows)

pub cut_list-requires-clause-ordered : goal.cut_list-requires-clause-ordered
cut_list-requires-clause-ordered c =
    joined-in_order c.in_ok-found.found _ c.in_ok-found.ensures.sets
    (IsFamily-family _ c.args.root c.is_sound.ensures.sound.closed c.requires.knows)

-- the sets of all sizes are those of the family
pub returns-clause-sets : goal.returns-clause-sets
returns-clause-sets c =
    IfOk-weaker c.cut_list.result (λ cuts. cuts ≡ joined c.in_ok-found.found)
    (HasSetsOf (family (map_of c.args.seat.now) c.args.root))
    (λ cuts same. subst (HasSetsOf (family (map_of c.args.seat.now) c.args.root)) (sym same)
    (joined-sets c.in_ok-found.found _ c.in_ok-found.ensures.sets)) c.cut_list.ensures.cuts

pub returns-clause-limit : goal.returns-clause-limit
returns-clause-limit c = λ refused.
    let same =
    weight-joined c.in_ok-found.found (family (map_of c.args.seat.now) c.args.root) c.in_ok-found.ensures.sets in
    let heavy = c.cut_list.ensures.limit refused in
    heavy_list (family (map_of c.args.seat.now) c.args.root)
    (IsFamily-family _ c.args.root c.is_sound.ensures.sound.closed c.requires.knows) (omega (arith, same, heavy))

pub returns-in_err-found-clause-limit : goal.returns-in_err-found-clause-limit
returns-in_err-found-clause-limit c = λ refused.
    let heavy : weight_limit < weight (family (map_of c.args.seat.now) c.args.root) = grind arith in
    heavy_list (family (map_of c.args.seat.now) c.args.root)
    (IsFamily-family _ c.args.root c.is_sound.ensures.sound.closed c.requires.knows) heavy
