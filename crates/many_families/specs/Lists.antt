-- The families of a list of references, and votes over its last members.
use Rattle.std.specs.Prelude.{◌≡◌, ℕ, suc, ◌+◌, ◌-◌, ◌<◌, ◌≤◌, List, [], ◌∷◌, All, Contains, drop, get_or, length}
use Rattle.std.specs.Prelude.{map, slice_index}
use Rattle.zdd_families.specs.{Least.IsLeastVotes, Units.HasUnit}
use Rattle.family_memory.specs.Memory.{Held, Has, IsSound, family_in}

-- the families of a list of references
abbrev pub families : Held → List ℕ → List (List (List ℕ))
families held list = map (family_in held) list

-- the reference has the minimal sets of so many votes over the families from one on
pub record IsVote (held : Held) (fs : List (List (List ℕ))) (from count r : ℕ) : Type 0 where
  pub has : Has held r
  pub is : IsLeastVotes count (drop from fs) (family_in held r)

-- the family's units are no lower than the one number and below the other, and the empty set is none of its sets
pub record IsBetween (floor next : ℕ) (f : List (List ℕ)) : Type 0 where
  pub order : floor ≤ next
  pub low : (unit : ℕ) → HasUnit f unit → floor ≤ unit
  pub high : (unit : ℕ) → HasUnit f unit → unit < next
  pub lacks : Contains f [] → ⊥

-- no family has the empty set, no unit is lower than the floor, and all units of a family are below those of the
-- later ones
abbrev pub AreApartFrom : ℕ → List (List (List ℕ)) → Type 0
AreApartFrom floor [] = Unit {0}
AreApartFrom floor (f ∷ fs) = (next : ℕ) × IsBetween floor next f × AreApartFrom next fs

-- The members from one on have voted: each place from that of the first on has one vote more than the place before,
-- where that many votes matter. The members before have their families. Where the floor is not 0, those that have
-- voted share no unit, and none of their units is below it.
pub record HaveVoted (held : Held) (fs : List (List (List ℕ))) (votes member floor : ℕ)
    (members : List ℕ) : Type 0 where
  pub count : length members ≡ length fs
  pub has : All (Has held) members
  pub waiting : (place : ℕ) → place < member → family_in held (slice_index members place) ≡ get_or fs place []
  pub voted : (place : ℕ) → member ≤ place → votes ≤ place + 1 → place < member + votes → place < length members
      → IsVote held fs member (suc (place - member)) (slice_index members place)
  pub units : 1 ≤ floor → AreApartFrom floor (drop member fs)

-- a member that is to vote; where the floor with it is not 0, it lies below all those that have voted
pub record IsVoter (held : Held) (fs : List (List (List ℕ))) (member floor voter : ℕ) : Type 0 where
  pub has : Has held voter
  pub is : family_in held voter ≡ get_or fs member []
  pub units : 1 ≤ floor → AreApartFrom floor (family_in held voter ∷ drop (member + 1) fs)

-- before a place the member has voted, and from it on not yet
pub record IsVoting (held : Held) (fs : List (List (List ℕ))) (votes member place : ℕ) (members : List ℕ) : Type 0 where
  pub count : length members ≡ length fs
  pub has : All (Has held) members
  pub waiting : (at : ℕ) → at < member → family_in held (slice_index members at) ≡ get_or fs at []
  pub before : (at : ℕ) → place ≤ at → member + 1 ≤ at → votes ≤ at + 1 → at < member + 1 + votes → at < length members
      → IsVote held fs (member + 1) (suc (at - (member + 1))) (slice_index members at)
  pub after : (at : ℕ) → at < place → member ≤ at → votes ≤ at + 1 → at < member + votes → at < length members
      → IsVote held fs member (suc (at - member)) (slice_index members at)

-- members are to vote, none of which has yet, for at least one vote and no more than there are members
pub record AreVoters (held : Held) (fs : List (List (List ℕ))) (votes : ℕ) (members : List ℕ) : Type 0 where
  pub sound : IsSound held
  pub some : 1 ≤ votes
  pub enough : votes ≤ length members
  pub has : All (Has held) members
  pub of : fs ≡ families held members

-- the members behind one have voted, which votes next
pub record VotesNext (held : Held) (fs : List (List (List ℕ))) (votes member floor : ℕ) (members : List ℕ)
    : Type 0 where
  pub sound : IsSound held
  pub some : 1 ≤ votes
  pub inside : member < length members
  pub voted : HaveVoted held fs votes (member + 1) floor members

-- the same while it votes: it does so next at a place whose votes matter
pub record VotesAt (held : Held) (fs : List (List (List ℕ))) (votes member place floor voter : ℕ) (members : List ℕ)
    : Type 0 where
  pub sound : IsSound held
  pub from : member ≤ place
  pub enough : votes ≤ place + 1
  pub most : place < member + votes
  pub inside : place < length members
  pub is_voter : IsVoter held fs member floor voter
  pub voting : IsVoting held fs votes member place members
