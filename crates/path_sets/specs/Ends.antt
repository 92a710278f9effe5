-- Why a path list was not made, by why its family or the list of its sets was not.
use Rattle.unit_sets.specs.declared.refusal.ListEnd.{ListEnd}
use Rattle.unit_sets.specs.declared.refusal.ListEnd.TheVariants as list
use Rattle.zdd_build.specs.declared.building.BuildEnd.{BuildEnd}
use Rattle.zdd_build.specs.declared.building.BuildEnd.TheVariants as build
use Rattle.path_sets.specs.declared.listing.PathEnd.{PathEnd}
use Rattle.path_sets.specs.declared.listing.PathEnd.TheVariants.{Full, ListLimit, NoMemory}

-- the store was full, or memory was refused
abbrev pub end_of_build : BuildEnd → PathEnd
end_of_build build.Full = Full
end_of_build build.NoMemory = NoMemory

-- the list would be too heavy, or memory was refused
abbrev pub end_of_list : ListEnd → PathEnd
end_of_list list.ListLimit = ListLimit
end_of_list list.NoMemory = NoMemory
