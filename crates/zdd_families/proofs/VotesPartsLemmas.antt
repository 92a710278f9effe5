-- What follows from the definitions of `specs/VotesParts`.
use Rattle.std.specs.Prelude.{◌≡◌, ◌⊎◌, ℕ, zero, suc, ◌≤◌, List, [], ◌∷◌, ◌++◌, Contains}
use Rattle.std.proofs.Common.{refl, sym, ◌∙◌, subst, inl, inr, arith, append_assoc}
use Rattle.std.proofs.{lemmas.List.append-nil, lemmas.List.Elements.Contains-append_right}
use Rattle.unit_sets.proofs.Sorted.{Contains-nil, Contains-cons_first}
use Rattle.zdd_families.proofs.FamilyLemmas.{IsFamily-nil, IsFamily-unit}
use Rattle.zdd_families.specs.Due.{IsDueToUnion, IsDueToProduct, IsDueToVotes, votes_product, votes_union}
use Rattle.zdd_families.specs.{Nodes.IsReached, Votes.IsVotes, Spans.Spans, VotesParts.PartOfOne}
use Rattle.zdd_families.specs.{VotesParts.SpanEach}
use Rattle.zdd_families.proofs.VotesLemmas.{votes-one, no_votes, no_more_votes, votes-none_step}
use Rattle.zdd_families.proofs.VotesLemmas.{votes-step}
use Rattle.zdd_families.proofs.Parts.{empty_unit, reached-none, reached-unit, reached_same, Origin, is_due, of_first}
use Rattle.zdd_families.proofs.Parts.{of_second}
use Rattle.zdd_families.proofs.UnionParts.{HasUnion, union-exists, union-parts}
use Rattle.zdd_families.proofs.ProductParts.{HasProduct, product-exists, product-parts}

pub Spans-none : (low size : ℕ) → Spans low size []
Spans-none low size = record { is_family = IsFamily-nil; above = tt; below = λ set has. Contains-nil set has }

pub Spans-unit : (low size : ℕ) → Spans low size ([] ∷ [])
Spans-unit low size =
    record {
      is_family = IsFamily-unit;
      above = (tt, tt);
      below =
          λ set has unit member. empty_unit set unit has member;
    }

-- ---- there are votes

pub record HasVotes (low size count : ℕ) (families : List (List (List ℕ))) : Type 0 where
  pub votes : List (List ℕ)
  pub is : IsVotes count families votes
  pub spans : Spans low size votes

-- those over the first families, and where their parts come from
record Made (low size most : ℕ) (families before : List (List (List ℕ))) (count : ℕ) : Type 0 where
  has : HasVotes low size count before
  parts : (part : List (List ℕ)) → IsReached has.votes part → IsDueToVotes most families part ⊎ PartOfOne families part

module _ (low size most : ℕ) (families : List (List (List ℕ))) where
  abbrev AllMade : List (List (List ℕ)) → Type 0
  AllMade before = (count : ℕ) → count ≤ most → Made low size most families before count

  before_all : AllMade []
  before_all zero few = record {
    has = record { votes = [] ∷ []; is = no_votes; spans = Spans-unit low size };
    parts = λ part reached. reached-unit (λ set has. has) reached;
  }
  before_all (suc count) few = record {
    has = record { votes = []; is = no_more_votes count; spans = Spans-none low size };
    parts = λ part reached. reached-none reached;
  }

  module _ (before after : List (List (List ℕ))) (member : List (List ℕ)) (is : families ≡ before ++ member ∷ after)
      (s : Spans low size member) where
    is_member : Contains families member
    is_member =
        subst (λ q. Contains q member) (sym is)
        (Contains-append_right before (member ∷ after) member (Contains-cons_first member after))

    module _ (count : ℕ) (few : suc count ≤ most) (same : Made low size most families before (suc count))
        (fewer : Made low size most families before count) (more : HasProduct low size fewer.has.votes member)
        (all : HasUnion low size same.has.votes more.product) (part : List (List ℕ)) where
      of_more : Origin (IsDueToProduct fewer.has.votes member part) fewer.has.votes member part
          → IsDueToVotes most families part ⊎ PartOfOne families part
      of_more (is_due due) = inl (votes_product before after count (omega arith) is fewer.has.is due)
      of_more (of_first reached) = fewer.parts part reached
      of_more (of_second reached) = inr (record { family = member; has = is_member; reached = reached })

      of_all : Origin (IsDueToUnion same.has.votes more.product part) same.has.votes more.product part
          → IsDueToVotes most families part ⊎ PartOfOne families part
      of_all (is_due due) =
          inl (votes_union before after count (omega arith) is same.has.is fewer.has.is more.is due)
      of_all (of_first reached) = same.parts part reached
      of_all (of_second reached) = of_more (product-parts size fewer.has.spans s more.is reached)

    one_more : AllMade before → AllMade (before ++ member ∷ [])
    one_more have zero few =
        let none : Made low size most families before zero = have zero few in
        record {
          has = record {
            votes = none.has.votes;
            is = votes-none_step before member none.has.votes none.has.is;
            spans = none.has.spans;
          };
          parts = none.parts;
        }
    one_more have (suc count) few =
        let same : Made low size most families before (suc count) = have (suc count) few in
        let fewer : Made low size most families before count = have count (omega arith) in
        let more : HasProduct low size fewer.has.votes member = product-exists size fewer.has.spans s in
        let all : HasUnion low size same.has.votes more.product = union-exists size same.has.spans more.spans in
        record {
          has = record {
            votes = all.union;
            is =
                votes-step member s.is_family before count same.has.votes fewer.has.votes more.product all.union
                same.has.is fewer.has.is more.is all.is;
            spans = all.spans;
          };
          parts = λ part reached. of_all count few same fewer more all part
              (union-parts size same.has.spans more.spans all.is reached);
        }

  go_on : (before after : List (List (List ℕ))) → families ≡ before ++ after → AllMade before
      → SpanEach low size after → AllMade (before ++ after)
  go_on before [] is have each = subst AllMade (sym (append-nil before)) have
  go_on before (member ∷ after) is have each =
      subst AllMade (append_assoc before (member ∷ []) after)
      (go_on (before ++ member ∷ []) after (is ∙ sym (append_assoc before (member ∷ []) after))
      (one_more before after member is each.0 have) each.1)

  made : SpanEach low size families → Made low size most families families most
  made each = go_on [] families refl before_all each most (omega arith)

pub votes-exist : (low size : ℕ) (families : List (List (List ℕ))) → SpanEach low size families → (count : ℕ)
    → HasVotes low size count families
votes-exist low size families each count = (made low size count families each).has

pub votes-parts : (low size most : ℕ) (families : List (List (List ℕ))) (part : List (List ℕ)) {h : List (List ℕ)}
    → SpanEach low size families → IsVotes most families h → IsReached h part
    → IsDueToVotes most families part ⊎ PartOfOne families part
votes-parts low size most families part {h} each is reached =
    let m : Made low size most families families most = made low size most families each in
    m.parts part (reached_same (votes-one most families h m.has.votes is m.has.is) reached)
