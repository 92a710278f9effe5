-- The votes at one place, when one member more votes.
use Rattle.std.proofs.Common.{◌≡◌, ◌≢◌, ℕ, suc, ◌+◌, ◌-◌, ◌==◌, ◌<◌, ◌≤◌, if◌then◌else◌, List, [], ◌∷◌, ◌++◌, All, take}
use Rattle.std.proofs.Common.{drop, get_or, set, length, refl, sym, ◌∙◌, ap, subst, inl, inr, arith}
use Rattle.std.proofs.{Math.Seq.drop-cons, lemmas.List.Elements.All-head, lemmas.List.Elements.All-tail}
use Rattle.std.proofs.lemmas.Bool.{cases_eq, cond-true, cond-false, ne_eqb}
use Rattle.std.proofs.lemmas.List.{take_more, take-append-drop, get_or-map, length-map, get_or-set_same}
use Rattle.std.proofs.lemmas.List.{get_or-set_other}
use Rattle.zdd_families.specs.Map.{Knows, KnowsAs, Grown, family}
use Rattle.zdd_families.proofs.{MapLemmas.family-unit, Canonical.IsFamily-family, VotesLemmas.no_votes}
use Rattle.zdd_families.proofs.{VotesLemmas.votes-step}
use Rattle.zdd_families.specs.{Union.IsUnion, Product.IsProduct, Votes.IsVotes}
use Rattle.zdd_families.specs.Due.{IsDueToVotes, votes_product, votes_union}
use Rattle.zdd_shared_table.specs.Seats.{Seated, IsSoundSeat, map_of}
use Rattle.zdd_product.specs.{Due.IsMadeByUnion, Due.IsMadeByProduct, Voting.families, Voting.IsVoting}
use Rattle.zdd_product.specs.Seats.{KnowsOne, WentOn, Gave, WasFull}
use Rattle.zdd_product.proofs.After.{stays, WentOn-as, WasFull-as, WentOn-next, WasFull-next}

-- ---- the families of a list stay

pub families_stay : (before after : Seated) (list : List ℕ) → IsSoundSeat before → IsSoundSeat after
    → Grown (map_of before) (map_of after) → All (Knows (map_of before)) list
    → families (map_of after) list ≡ families (map_of before) list
families_stay before after [] sound sound' keeps knows = refl
families_stay before after (r ∷ list) sound sound' keeps knows =
    ap (λ f. f ∷ families (map_of after) list) (stays before after r sound sound' keeps
    (All-head (Knows (map_of before)) r list knows)).1
    ∙ ap (λ fs. family (map_of before) r ∷ fs) (families_stay before after list sound sound' keeps
    (All-tail (Knows (map_of before)) r list knows))

pub known_stay : (before after : Seated) (list : List ℕ) → IsSoundSeat before → IsSoundSeat after
    → Grown (map_of before) (map_of after) → All (Knows (map_of before)) list → All (Knows (map_of after)) list
known_stay before after list sound sound' keeps knows =
    λ k d inside. (stays before after (get_or list k d) sound sound' keeps (knows k d inside)).0

-- a known reference that is such votes before is so afterwards
votes_stay : (before after : Seated) (list : List ℕ) → IsSoundSeat before → IsSoundSeat after
    → Grown (map_of before) (map_of after) → All (Knows (map_of before)) list
    → (members count r : ℕ) → KnowsOne (map_of before) r (IsVotes count (take members (families (map_of before) list)))
    → KnowsOne (map_of after) r (IsVotes count (take members (families (map_of after) list)))
votes_stay before after list sound sound' keeps knows members count r known =
    let at = stays before after r sound sound' keeps known.0 in (
      at.0,
      subst (λ fs. IsVotes count (take members fs) (family (map_of after) r))
          (sym (families_stay before after list sound sound' keeps knows))
          (subst (IsVotes count (take members (families (map_of before) list))) (sym at.1) known.1),
    )

-- ---- no votes

votes_none : (fs : List (List (List ℕ))) → IsVotes 0 fs ([] ∷ [])
votes_none [] = no_votes
votes_none (f ∷ fs) =
    let rest : IsVotes 0 fs ([] ∷ []) = votes_none fs in record { is_family = rest.is_family; sets = rest.sets }

-- ---- one member more

parts_of_list : (fs : List (List (List ℕ))) (i : ℕ) {f : List (List ℕ)} → i < length fs → get_or fs i [] ≡ f
    → fs ≡ take i fs ++ f ∷ drop (suc i) fs
parts_of_list fs i inside here =
    sym (take-append-drop i fs) ∙ ap (λ q. take i fs ++ q) (drop-cons fs i [] inside)
    ∙ ap (λ q. take i fs ++ q ∷ drop (suc i) fs) here

one_more : (fs : List (List (List ℕ))) (i : ℕ) {f : List (List ℕ)} → i < length fs → get_or fs i [] ≡ f
    → take (i + 1) fs ≡ take i fs ++ f ∷ []
one_more fs i inside here = take_more fs i [] inside ∙ ap (λ q. take i fs ++ q ∷ []) here

-- The member at i is to vote at a place, after it has at all higher ones: the votes one fewer, the member and the votes
-- at the place were read.
pub record IsVotingAt (s0 : Seated) (list room : List ℕ) (k i place fewer member same : ℕ) : Type 0 where
  pub sound : IsSoundSeat s0
  pub knows : All (Knows (map_of s0)) list
  pub within : i < length list
  pub here : place < k
  pub space : k ≤ length room
  pub held : IsVoting (map_of s0) list k i (place + 1) room
  pub fewer_is : fewer ≡ (if place == 0 then 1 else get_or room (place - 1) 0)
  pub member_is : member ≡ get_or list i 0
  pub same_is : same ≡ get_or room place 0

module _ {s0 : Seated} {list room : List ℕ} {k i place fewer member same : ℕ}
    (turn : IsVotingAt s0 list room k i place fewer member same) where
  abbrev fams : List (List (List ℕ))
  fams = families (map_of s0) list

  abbrev due : List (List ℕ) → Type 0
  due = IsDueToVotes k fams

  pub vote_member : Knows (map_of s0) member
  vote_member = subst (Knows (map_of s0)) (sym turn.member_is) (turn.knows i 0 turn.within)

  in_fams : i < length fams
  in_fams = let e : length fams ≡ length list = length-map list (family (map_of s0)) in omega (arith, e)

  member_here : get_or fams i [] ≡ family (map_of s0) member
  member_here = get_or-map (family (map_of s0)) list i 0 [] turn.within ∙ ap (family (map_of s0)) (sym turn.member_is)

  pub vote_fewer : KnowsOne (map_of s0) fewer (IsVotes place (take i fams))
  vote_fewer =
      elim (cases_eq place 0) [
        | inl none ↦
            let unit : fewer ≡ 1 =
            turn.fewer_is ∙ cond-true (place == 0) 1 (get_or room (place - 1) 0) (ap (λ n. n == 0) none) in (
              inl (omega arith),
              subst (λ n. IsVotes n (take i fams) (family (map_of s0) fewer)) (sym none)
                  (subst (IsVotes 0 (take i fams)) (sym (ap (family (map_of s0)) unit ∙ family-unit (map_of s0)))
                  (votes_none (take i fams))),
            )
        | inr some ↦
            let at : fewer ≡ get_or room (place - 1) 0 =
            turn.fewer_is ∙ cond-false (place == 0) 1 (get_or room (place - 1) 0) (ne_eqb place 0 some) in
            let one : suc (place - 1) ≡ place = omega arith in
            subst (λ r. KnowsOne (map_of s0) r (IsVotes place (take i fams))) (sym at)
            (subst (λ n. KnowsOne (map_of s0) (get_or room (place - 1) 0) (IsVotes n (take i fams))) one
            (turn.held.before (place - 1) (omega arith) (omega arith)))
      ]

  vote_same : KnowsOne (map_of s0) same (IsVotes (suc place) (take i fams))
  vote_same =
      subst (λ r. KnowsOne (map_of s0) r (IsVotes (suc place) (take i fams))) (sym turn.same_is)
      (turn.held.before place (omega arith) (omega arith))

  abbrev product_due : List (List ℕ) → Type 0
  product_due = IsMadeByProduct (family (map_of s0) fewer) (family (map_of s0) member)

  to_product : (h : List (List ℕ)) → product_due h → due h
  to_product h made =
      votes_product (take i fams) (drop (suc i) fams) place turn.here
      (parts_of_list fams i in_fams member_here) vote_fewer.1 made.2

  pub vote_product_full : {s1 : Seated} → WasFull product_due s0 s1 → WasFull due s0 s1
  vote_product_full {s1 = s1} full = WasFull-as product_due due to_product s0 s1 full

  module _ {s1 : Seated} {more : ℕ} (gave : Gave (IsProduct (family (map_of s0) fewer) (family (map_of s0) member))
      product_due s0 s1 more) where
    on1 : WentOn due s0 s1
    on1 = WentOn-as product_due due to_product s0 s1 gave.on

    same_at : KnowsAs (map_of s1) same (family (map_of s0) same)
    same_at = stays s0 s1 same turn.sound on1.went.sound on1.went.keeps vote_same.0

    pub vote_same_known : Knows (map_of s1) same
    vote_same_known = same_at.0

    abbrev union_due : List (List ℕ) → Type 0
    union_due = IsMadeByUnion (family (map_of s1) same) (family (map_of s1) more)

    to_union : (h : List (List ℕ)) → union_due h → due h
    to_union h made =
        let at : IsMadeByUnion (family (map_of s0) same) (family (map_of s1) more) h =
        subst (λ f. IsMadeByUnion f (family (map_of s1) more) h) same_at.1 made in
        votes_union (take i fams) (drop (suc i) fams) place turn.here
        (parts_of_list fams i in_fams member_here) vote_same.1 vote_fewer.1 gave.known.1 at.1

    pub vote_union_full : {s2 : Seated} → WasFull union_due s1 s2 → WasFull due s0 s2
    vote_union_full {s2 = s2} full = WasFull-next union_due s2 on1 to_union full

    module _ {s2 : Seated} {made : ℕ} (gave2 : Gave (IsUnion (family (map_of s1) same) (family (map_of s1) more))
        union_due s1 s2 made) where
      pub vote_on : WentOn due s0 s2
      vote_on = WentOn-next union_due s2 on1 to_union gave2.on

      made_is : IsVotes (suc place) (take (i + 1) fams) (family (map_of s2) made)
      made_is =
          subst (λ fs. IsVotes (suc place) fs (family (map_of s2) made)) (sym (one_more fams i in_fams member_here))
          (votes-step (family (map_of s0) member) (IsFamily-family (map_of s0) member turn.sound.closed vote_member)
          (take i fams) place (family (map_of s0) same) (family (map_of s0) fewer) (family (map_of s1) more)
          (family (map_of s2) made)
          vote_same.1 vote_fewer.1 gave.known.1 (subst (λ f.
          IsUnion f (family (map_of s1) more) (family (map_of s2) made)) same_at.1 gave2.known.1))

      made_known : KnowsOne (map_of s2) made (IsVotes (suc place) (take (i + 1) (families (map_of s2) list)))
      made_known = (
        gave2.known.0,
        subst (λ fs. IsVotes (suc place) (take (i + 1) fs) (family (map_of s2) made))
            (sym (families_stay s0 s2 list turn.sound vote_on.went.sound vote_on.went.keeps turn.knows)) made_is,
      )

      other_known : (members q : ℕ) → q ≢ place → KnowsOne (map_of s0) (get_or room q 0)
          (IsVotes (suc q) (take members fams)) → KnowsOne (map_of s2) (get_or (set room place made) q 0)
          (IsVotes (suc q) (take members (families (map_of s2) list)))
      other_known members q other known =
          subst (λ r. KnowsOne (map_of s2) r (IsVotes (suc q) (take members (families (map_of s2) list))))
          (sym (get_or-set_other room place q made 0 other))
          (votes_stay s0 s2 list turn.sound vote_on.went.sound vote_on.went.keeps turn.knows members (suc q)
          (get_or room q 0) known)

      here_known : {q : ℕ} → q ≡ place → KnowsOne (map_of s2) (get_or (set room place made) q 0)
          (IsVotes (suc q) (take (i + 1) (families (map_of s2) list)))
      here_known at =
          subst (λ n. KnowsOne (map_of s2) (get_or (set room place made) n 0)
          (IsVotes (suc n) (take (i + 1) (families (map_of s2) list)))) (sym at)
          (subst (λ r. KnowsOne (map_of s2) r (IsVotes (suc place) (take (i + 1) (families (map_of s2) list))))
          (sym (get_or-set_same room place made 0 (omega arith))) made_known)

      pub vote_held : IsVoting (map_of s2) list k i place (set room place made)
      vote_held = record {
        before = λ q low high. other_known i q (λ e. omega arith) (turn.held.before q low (omega arith));
        after = λ q low high. elim (cases_eq q place) [
          | inl at ↦ here_known at
          | inr other ↦ other_known (i + 1) q other (turn.held.after q (omega arith) high)
        ];
      }

-- ---- a later step

module _ {start before : Seated} (after : Seated) (list : List ℕ) (k : ℕ) (sound : IsSoundSeat start)
    (knows : All (Knows (map_of start)) list) (on : WentOn (IsDueToVotes k (families (map_of start) list)) start
    before) where
  due_same : (h : List (List ℕ)) → IsDueToVotes k (families (map_of before) list) h
      → IsDueToVotes k (families (map_of start) list) h
  due_same h due =
      subst (λ fs. IsDueToVotes k fs h) (families_stay start before list sound on.went.sound on.went.keeps knows) due

  pub votes_on : WentOn (IsDueToVotes k (families (map_of before) list)) before after
      → WentOn (IsDueToVotes k (families (map_of start) list)) start after
  votes_on later = WentOn-next (IsDueToVotes k (families (map_of before) list)) after on due_same later

  pub votes_full : WasFull (IsDueToVotes k (families (map_of before) list)) before after
      → WasFull (IsDueToVotes k (families (map_of start) list)) start after
  votes_full full =
      WasFull-next (IsDueToVotes k (families (map_of before) list)) after on due_same full
