-- Votes over a list of references, member by member.
use Rattle.std.specs.Prelude.{ℕ, suc, ◌+◌, ◌<◌, ◌≤◌, List, All, length, map, take, slice_index}
use Rattle.zdd_families.specs.{Map.Knows, Map.family, Votes.IsVotes}
use Rattle.zdd_shared_table.specs.Seats.{Seated, IsSoundSeat, map_of}
use Rattle.zdd_product.specs.Seats.{KnowsOne}

-- the families of a list of references
abbrev pub families : (ℕ → ℕ) → List ℕ → List (List (List ℕ))
families known list = map (family known) list

-- At each place from one to another, counted from 0, the room has the votes over the first members of the list:
-- at the first place one vote, and at each later place one more.
abbrev pub HoldsVotes : (ℕ → ℕ) → List ℕ → ℕ → ℕ → ℕ → List ℕ → Type 0
HoldsVotes known list members from to room =
    (place : ℕ) → from ≤ place → place < to → KnowsOne known (slice_index room place)
    (IsVotes (suc place) (take members (families known list)))

-- below a place the votes are those over the first members, and from it on one member more has its votes
pub record IsVoting (known : ℕ → ℕ) (list : List ℕ) (k members place : ℕ) (room : List ℕ) : Type 0 where
  pub before : HoldsVotes known list members 0 place room
  pub after : HoldsVotes known list (members + 1) place k room

-- a sound seat knows the members of a list, and there is room for k numbers of votes
pub record CanVote (seat : Seated) (list : List ℕ) (k : ℕ) (room : List ℕ) : Type 0 where
  pub sound : IsSoundSeat seat
  pub knows : All (Knows (map_of seat)) list
  pub space : k ≤ length room
