-- Why a path list was not made, traced to why the list of its sets was not.
use Rattle.std.proofs.Common.{◌≡◌, refl}
use Rattle.unit_sets.specs.declared.refusal.ListEnd.{ListEnd}
use Rattle.unit_sets.specs.declared.refusal.ListEnd.TheVariants as list
use Rattle.path_sets.specs.declared.listing.PathEnd.TheVariants.{ListLimit}
use Rattle.path_sets.specs.Ends.{end_of_list}

pub list_limit : (end : ListEnd) → end_of_list end ≡ ListLimit → end ≡ list.ListLimit
list_limit list.ListLimit same = refl
list_limit list.NoMemory same = absurd cc
