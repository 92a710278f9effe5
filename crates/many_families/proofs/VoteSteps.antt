-- The votes at one place, when one member more votes.
use Rattle.std.proofs.Common.{◌≡◌, ℕ, suc, ◌+◌, ◌-◌, ◌==◌, ◌<◌, ◌≤◌, Bool, true, false, if◌then◌else◌, List, [], ◌∷◌}
use Rattle.std.proofs.Common.{drop, get_or, set, length, sym, ◌∙◌, ap}
use Rattle.std.proofs.Common.{subst, inl, inr, arith, length-drop, eq-eqb, refl}
use Rattle.std.proofs.lemmas.Bool.{cases_eq, cases_lt, cond-true, cond-false, lt-leb, ne_eqb}
use Rattle.std.proofs.lemmas.List.{drop_more, get_or-set_same, get_or-set_other, get_or_past, length-set}
use Rattle.std.proofs.lemmas.List.Elements.{All-set}
use Rattle.zdd_families.specs.{Within.count_within, Least.IsLeastVotes}
use Rattle.zdd_families.proofs.{MinimalLemmas.minimal-none, MapLemmas.family-empty, MapLemmas.family-unit}
use Rattle.zdd_families.proofs.{Many.no_votes}
use Rattle.family_memory.specs.Memory.{Held, Has, IsSound, Went, Gave, family_in, map_of}
use Rattle.family_memory.proofs.After.{Gave-there, still, still_has}
use Rattle.many_families.specs.Lists.{families, AreApartFrom, IsBetween, IsVote, IsVoter, IsVoting, HaveVoted}
use Rattle.many_families.specs.Lists.{VotesAt, VotesNext}
use Rattle.many_families.specs.Joins.{IsJoined, IsBelow}
use Rattle.many_families.proofs.{Lists.many_families, Lists.still_all, ApartVotes.is_below, ApartVotes.votes_joined}
use Rattle.unit_sets.specs.UnitList.{some_within}

-- ---- no votes, and more votes than members

one_more : (hit : Bool) (n m : ℕ) → n ≤ m → (if hit then 1 else 0) + n ≤ m + 1
one_more true n m h = omega arith
one_more false n m h = omega arith

hits_few : (fs : List (List (List ℕ))) (within : ℕ → Bool) → count_within fs within ≤ length fs
hits_few [] within = omega arith
hits_few (f ∷ fs) within =
    let h = one_more (some_within f within) (count_within fs within) (length fs) (hits_few fs within) in omega arith

too_many : (held : Held) (fs : List (List (List ℕ))) (votes : ℕ) → length fs < votes
    → IsLeastVotes votes fs (family_in held 0)
too_many held fs votes many =
    subst (IsLeastVotes votes fs) (sym (family-empty (map_of held)))
    record {
      antichain = minimal-none;
      some_within = λ within. sym (lt-leb votes (count_within fs within) (let h = hits_few fs within in omega arith));
    }

pub given_no_votes : {held : Held} (list : List ℕ) (votes : ℕ) → IsSound held → votes ≡ 0
    → Gave (IsLeastVotes votes (families held list)) held held 1
given_no_votes {held} list votes sound none =
    Gave-there sound (let few = sound.terminals in omega arith)
    (subst (λ n. IsLeastVotes n (families held list) (family_in held 1)) (sym none)
    (subst (IsLeastVotes 0 (families held list)) (sym (family-unit (map_of held))) (no_votes (families held list))))

pub given_too_many : {held : Held} (list : List ℕ) (votes : ℕ) → IsSound held → length list < votes
    → Gave (IsLeastVotes votes (families held list)) held held 0
given_too_many {held} list votes sound many =
    Gave-there sound (let few = sound.terminals in omega arith)
    (too_many held (families held list) votes (let e = many_families held list in omega arith))

-- ---- what stands stays

module _ {before after : Held} (fs : List (List (List ℕ))) (sound : IsSound before) (went : Went before after) where
  pub vote_stays : {from count r : ℕ} → IsVote before fs from count r → IsVote after fs from count r
  vote_stays {from} {count} {r} vote = record {
    has = still_has sound went r vote.has;
    is = subst (IsLeastVotes count (drop from fs)) (sym (still sound went r vote.has)) vote.is;
  }

  pub voter_stays : {member floor voter : ℕ} → IsVoter before fs member floor voter
      → IsVoter after fs member floor voter
  voter_stays {member} {floor} {voter} is = record {
    has = still_has sound went voter is.has;
    is = still sound went voter is.has ∙ is.is;
    units =
        λ some. subst (λ f. AreApartFrom floor (f ∷ drop (member + 1) fs))
        (sym (still sound went voter is.has)) (is.units some);
  }

-- ---- one member more at one place

module _ {s0 : Held} {fs : List (List (List ℕ))} {votes member place floor voter : ℕ} {members : List ℕ}
    (turn : VotesAt s0 fs votes member place floor voter members) {fewer : ℕ}
    (fewer_is : fewer ≡ (if place == member then 1 else get_or members place 0)) {same : ℕ}
    (same_is : same ≡ get_or members (place + 1) 0) where
  pub fewer_vote : IsVote s0 fs (member + 1) (place - member) fewer
  fewer_vote =
      elim (cases_eq place member) [
        | inl here ↦
            let unit : fewer ≡ 1 =
            fewer_is ∙ cond-true (place == member) 1 (get_or members place 0)
            (ap (λ n. place == n) (sym here) ∙ eq-eqb place place refl) in
            let none : place - member ≡ 0 = omega arith in
            subst (λ n. IsVote s0 fs (member + 1) n fewer) (sym none)
            (subst (IsVote s0 fs (member + 1) 0) (sym unit)
            record {
              has = let few = turn.sound.terminals in omega arith;
              is =
                  subst (IsLeastVotes 0 (drop (member + 1) fs)) (sym (family-unit (map_of s0)))
                  (no_votes (drop (member + 1) fs));
            })
        | inr past ↦
            let at : fewer ≡ get_or members place 0 =
            fewer_is ∙ cond-false (place == member) 1 (get_or members place 0) (ne_eqb place member past) in
            let one : suc (place - (member + 1)) ≡ place - member = let h = turn.from in omega (arith, h, past) in
            subst (IsVote s0 fs (member + 1) (place - member)) (sym at)
            (subst (λ n. IsVote s0 fs (member + 1) n (get_or members place 0)) one
            (turn.voting.before place (omega arith) (let h = turn.from in omega (arith, h, past)) turn.enough
            (let h = turn.most in omega (arith, h)) turn.inside))
      ]

  pub same_vote : IsVote s0 fs (member + 1) (suc (place - member)) same
  same_vote =
      elim (cases_lt (place + 1) (length members)) [
        | inl inside ↦
            let one : suc (place + 1 - (member + 1)) ≡ suc (place - member) = omega arith in
            subst (IsVote s0 fs (member + 1) (suc (place - member))) (sym same_is)
            (subst (λ n. IsVote s0 fs (member + 1) n (get_or members (place + 1) 0)) one
            (turn.voting.before (place + 1) (omega arith) (let h = turn.from in omega (arith, h))
            (let h = turn.enough in omega (arith, h)) (let h = turn.most in omega (arith, h)) inside))
        | inr past ↦
            subst (IsVote s0 fs (member + 1) (suc (place - member)))
            (sym (same_is ∙ get_or_past members (place + 1) 0 past))
            record {
              has = let few = turn.sound.terminals in omega arith;
              is = too_many s0 (drop (member + 1) fs) (suc (place - member))
                  (let e = length-drop (member + 1) fs in let n = turn.voting.count in let h = turn.from in
                  let k = turn.inside in omega (arith, e, n, h, k, past));
            }
      ]

  pub voter_below : 1 ≤ floor → IsBelow (family_in s0 voter) (family_in s0 same) (family_in s0 fewer)
  voter_below some = before_others (turn.is_voter.units some) where
    before_others : AreApartFrom floor (family_in s0 voter ∷ drop (member + 1) fs)
        → IsBelow (family_in s0 voter) (family_in s0 same) (family_in s0 fewer)
    before_others (next, between, others) =
        is_below next (place - member) (drop (member + 1) fs) others fewer_vote.is between same_vote.is

  module _ {s1 : Held} {made : ℕ} (gave : Gave (IsJoined (family_in s0 voter) (family_in s0 same) (family_in s0 fewer))
      s0 s1 made) where
    next : drop member fs ≡ family_in s0 voter ∷ drop (member + 1) fs
    next =
        drop_more fs member []
        (let n = turn.voting.count in let h = turn.from in let k = turn.inside in omega (arith, n, h, k))
        ∙ ap (λ f. f ∷ drop (member + 1) fs) (sym turn.is_voter.is)

    made_vote : IsVote s1 fs member (suc (place - member)) made
    made_vote = record {
      has = gave.has;
      is =
          subst (λ l. IsLeastVotes (suc (place - member)) l (family_in s1 made)) (sym next)
          (votes_joined (place - member) (family_in s0 voter) (drop (member + 1) fs) same_vote.is fewer_vote.is
          gave.is);
    }

    other_place : (at : ℕ) → ¬ (at ≡ place) → get_or (set members place made) at 0 ≡ get_or members at 0
    other_place at other = get_or-set_other members place at made 0 other

    pub voted_at : IsVoting s1 fs votes member (place + 1) (set members place made)
    voted_at = record {
      count = length-set members place made ∙ turn.voting.count;
      has = All-set (Has s1) members place made gave.has (still_all members turn.sound gave.went turn.voting.has);
      waiting = λ at low.
          ap (family_in s1) (other_place at (λ e. let h = turn.from in omega (arith, h, e, low)))
          ∙ still turn.sound gave.went (get_or members at 0)
          (turn.voting.has at 0 (let h = turn.from in let k = turn.inside in omega (arith, h, k, low)))
          ∙ turn.voting.waiting at low;
      before = λ at from low enough most inside.
          subst (IsVote s1 fs (member + 1) (suc (at - (member + 1))))
          (sym (other_place at (λ e. omega (arith, e, from)))) (vote_stays fs turn.sound gave.went
          (turn.voting.before at (omega (arith, from)) low enough most
          (let e = length-set members place made in omega (arith, e, inside))));
      after = λ at until low enough most inside.
          elim (cases_eq at place) [
            | inl here ↦
                subst (λ q. IsVote s1 fs member (suc (q - member)) (get_or (set members place made) q 0)) (sym here)
                (subst (IsVote s1 fs member (suc (place - member)))
                (sym (get_or-set_same members place made 0 turn.inside)) made_vote)
            | inr other ↦
                subst (IsVote s1 fs member (suc (at - member))) (sym (other_place at other))
                (vote_stays fs turn.sound gave.went (turn.voting.after at (omega (arith, until, other)) low enough most
                (let e = length-set members place made in omega (arith, e, inside))))
          ];
    }

-- ---- a member begins, and has voted

module _ {held : Held} {fs : List (List (List ℕ))} {votes member floor : ℕ} {members : List ℕ}
    (waits : VotesNext held fs votes member floor members) {voter : ℕ} (voter_is : voter ≡ get_or members member 0)
    (lower : ℕ)
    (between : 1 ≤ lower → IsBetween lower floor (family_in held voter)) where
  pub has_voter : Has held voter
  has_voter = subst (Has held) (sym voter_is) (waits.voted.has member 0 waits.inside)

  pub voter_begins : IsVoter held fs member lower voter
  voter_begins = record {
    has = has_voter;
    is = ap (family_in held) voter_is ∙ waits.voted.waiting member (omega arith);
    units = λ some. (floor, between some, waits.voted.units (let h = (between some).order in omega (arith, h, some)));
  }

  pub voting_begins : {place : ℕ} → ((at : ℕ) → member ≤ at → votes ≤ at + 1 → place ≤ at)
      → IsVoting held fs votes member place members
  voting_begins lowest = record {
    count = waits.voted.count;
    has = waits.voted.has;
    waiting = λ at low. waits.voted.waiting at (omega arith);
    before = λ at from low enough most within. waits.voted.voted at low enough most within;
    after = λ at until low enough most within. absurd (let h = lowest at low enough in omega (arith, h, until));
  }

pub member_voted : {held : Held} {fs : List (List (List ℕ))} (votes : ℕ) {member place lower : ℕ} {members : List ℕ}
    {voter : ℕ} → member < length members → IsVoter held fs member lower voter
    → IsVoting held fs votes member place members → ((at : ℕ) → at < member + votes → at < length members → at < place)
    → HaveVoted held fs votes member lower members
member_voted {fs} votes {member} {lower} inside is_voter voting highest = record {
  count = voting.count;
  has = voting.has;
  waiting = voting.waiting;
  voted = λ at low enough most within. voting.after at (highest at most within) low enough most within;
  units =
      λ some. subst (AreApartFrom lower) (sym (drop_more fs member []
      (let n = voting.count in omega (arith, n, inside))))
      (subst (λ f. AreApartFrom lower (f ∷ drop (member + 1) fs)) is_voter.is (is_voter.units some));
}
