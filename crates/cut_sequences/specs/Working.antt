-- What the workers have listed so far, and what they still have to list.
use Rattle.std.specs.Prelude.{◌≡◌, ℕ, ◌+◌, ◌-◌, ◌<◌, ◌≤◌, List, [], ◌∷◌, ◌++◌, length, drop, All, slice_index_or}
use Rattle.std.specs.Prelude.{Option, Result, Ok, Err}
use Rattle.deck_limits.specs.declared.TheConstants.{MOST_WORKERS}
use Rattle.fault_definitions.specs.{Tree.IsUnitOf, WellFormed.IsTree}
use Rattle.cut_sequences.specs.{declared.refusal.OrderEnd.OrderEnd, declared.share.GrowingShare.GrowingShare}
use Rattle.cut_sequences.specs.{declared.share.Share.TheInside.Inside, declared.share.Sets.Sets}
use Rattle.cut_sequences.specs.{declared.share.Work.Work, declared.share.Stop.Stop, Going.none_failed, Holding.lists_of}
use Rattle.cut_sequences.specs.{Holding.HoldsShare, Dealing.dealt, Dealing.Share}
use Rattle.cut_sequences.specs.Orders.{order_count, order_lists, order_total, IsOver}

-- each of the sets has units of the tree alone
abbrev pub AreOfTree : Sets → Type 0
AreOfTree sets = All (λ (cut : List ℕ). All (IsUnitOf sets.tree.now) cut) sets.cuts.now

-- the lists that the workers are to make together: of each set its failing orders, if it is not too large
abbrev pub lists_due : Sets → Share
lists_due sets = order_lists sets.tree.now sets.cuts.now sets.most

-- the sets from a place on are larger than those that are listed
pub record IsEndOfListed (cuts : List (List ℕ)) (most end : ℕ) : Type 0 where
  pub within : end ≤ length cuts
  pub larger : All (λ (cut : List ℕ). most < length cut) (drop end cuts)

-- ---- a worker

-- the lists that a worker has, and those that it still has to add
abbrev pub whole : Share → ℕ → Work → Share
whole lists workers work = work.share ++ dealt 0 (workers - 1) (drop work.next lists)

-- a worker stops at a place, or where it has enough orders
abbrev pub HasStopped : Stop → Work → Type 0
HasStopped stop work = order_total work.share ≤ stop.orders → stop.place ≤ work.next

-- a worker has gone on until it had to stop, or it gets too many orders
abbrev pub WentOn : Share → ℕ → Stop → Work → Result Work OrderEnd → Type 0
WentOn lists workers stop work (Ok later) =
    (whole lists workers later ≡ whole lists workers work) × HasStopped stop later
WentOn lists workers stop work (Err end) = IsOver (order_total (whole lists workers work)) end

-- so many workers can go on with the sets, until they have to stop
pub record CanWork (sets : Sets) (workers : ℕ) (stop : Stop) : Type 0 where
  pub some : 0 < workers
  pub few : workers ≤ MOST_WORKERS
  pub place : stop.place ≤ length sets.cuts.now
  pub units : AreOfTree sets

-- ---- a share that grows

-- the share that it is so far
abbrev pub share_of : GrowingShare → Inside
share_of growing = record { orders = growing.search.orders; ends = growing.ends; listed = growing.listed }

-- no unit has failed, and the share has its lists: so it grows by sets of the tree
pub record CanGrow (sets : Sets) (growing : GrowingShare) : Type 0 where
  pub kept : IsTree sets.tree.now
  pub start : growing.search.replay ≡ none_failed sets.tree.now
  pub held : HoldsShare (share_of growing)

-- it has one list more, or its orders and those before are too many
abbrev pub AddsList : {T : Type 0} → Sets → GrowingShare → GrowingShare → Option (List (List ℕ)) → Result T OrderEnd
    → Type 0
AddsList sets before after list (Ok _) =
    CanGrow sets after × (lists_of (share_of after) ≡ lists_of (share_of before) ++ list ∷ [])
AddsList sets before after list (Err end) = IsOver (length before.search.orders + order_count list) end

-- what a worker has listed, and the place of the next set
abbrev pub work_of : GrowingShare → ℕ → Work
work_of growing next = record { share = lists_of (share_of growing); next = next }

-- a worker has gone on from a place, with a share that grows
abbrev pub AddsSets : Sets → ℕ → Stop → GrowingShare → ℕ → GrowingShare → Result ℕ OrderEnd → Type 0
AddsSets sets workers stop before from after (Ok next) =
    HoldsShare (share_of after) × WentOn (lists_due sets) workers stop (work_of before from) (Ok (work_of after next))
AddsSets sets workers stop before from after (Err end) =
    WentOn (lists_due sets) workers stop (work_of before from) (Err end)

-- ---- all workers

-- each of the workers gets what is dealt to it of the sets
pub record AreAtWork (sets : Sets) (works : List Work) : Type 0 where
  pub some : 0 < length works
  pub few : length works ≤ MOST_WORKERS
  pub units : AreOfTree sets
  pub each : (worker : ℕ) (d : Work) → worker < length works
      → whole (lists_due sets) (length works) (slice_index_or works worker d)
      ≡ dealt worker (length works - 1) (lists_due sets)

-- the same workers have gone on, and each has done so far
pub record HaveWorked (IsDone : Work → Type 0) (sets : Sets) (works later : List Work) : Type 0 where
  pub at_work : AreAtWork sets later
  pub workers : length later ≡ length works
  pub done : All IsDone later

-- the number of orders that a worker has
abbrev pub orders_of_work : Work → ℕ
orders_of_work work = order_total work.share
