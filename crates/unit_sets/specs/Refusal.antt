-- Why a list of cut sets was not made, by what its last push answered.
use Rattle.unit_sets.specs.{declared.refusal.PushEnd.PushEnd, declared.refusal.ListEnd.ListEnd}
use Rattle.unit_sets.specs.declared.refusal.PushEnd.TheVariants as push
use Rattle.unit_sets.specs.declared.refusal.ListEnd.TheVariants as list

-- the refusal of the last push is the reason that there is no list
abbrev pub list_end : PushEnd → ListEnd
list_end push.ListLimit = list.ListLimit
list_end push.NoMemory = list.NoMemory
