use Rattle.store_tests.proofs.Mades.{lacks_none}
use Rattle.store_tests.proofs.cutset_listing_tests.empty_ones.Goals as goal

pub list-requires-clause-filled : goal.list-requires-clause-filled
list-requires-clause-filled c = lacks_none _
