-- What the fields of an `Ops` keep.
use Rattle.std.specs.Prelude.{◌≡◌, List}
use Rattle.std.specs.List.{All}
use Rattle.zdd_shared_table.specs.Seats.{Seated, TableId, IsSoundSeat, map_of}
use Rattle.zdd_product.specs.Told.{IsTold}
use Rattle.kept_answers.specs.declared.answers.Entry.{Entry}

-- the seat belongs to the store, and knows each entry's answer as its operation's family
pub record HoldsOps (store : TableId) (seat : Seated) (entries : List Entry) : Type 0 where
  pub own : seat.store ≡ store
  pub sound : IsSoundSeat seat
  pub told : All (IsTold (map_of seat)) entries
