use Rattle.std.proofs.Common.{◌≡◌, suc, ◌-◌, ◌≤◌, [], get_or, take, length, sym, ◌∙◌, ap, subst, inl, arith}
use Rattle.std.proofs.{Math.Seq.take-length, lemmas.List.get_or_read, lemmas.List.length-map}
use Rattle.zdd_families.specs.{Map.Knows, Map.family, Votes.IsVotes}
use Rattle.zdd_families.proofs.{MapLemmas.family-empty, VotesLemmas.no_more_votes}
use Rattle.zdd_shared_table.specs.Seats.{map_of}
use Rattle.zdd_product.specs.{Seats.KnowsOne, Voting.families}
use Rattle.zdd_product.proofs.VoteSteps.{families_stay}
use Rattle.zdd_product.proofs.ops.Ops.votes.Goals as goal

pub vote_all-requires-clause-held : goal.vote_all-requires-clause-held
vote_all-requires-clause-held c = λ place low high.
    let known = map_of c.args.self.now in
    let none = c.clear.ensures place high in (
      subst (Knows known) (sym none) (inl (omega arith)),
      subst (IsVotes (suc place) []) (sym (ap (family known) none ∙ family-empty known)) (no_more_votes place),
    )

pub returns-clause-gives : goal.returns-clause-gives
returns-clause-gives c =
    let list = c.args.list.now in
    let new = map_of c.vote_all.new.self in
    let room = c.vote_all.new.room in
    let k = c.args.k in
    let done = c.in_ok-vote_all.ensures in
    let some : 1 ≤ k = c.requires.some in
    let space : k ≤ length room = omega arith in
    let last : suc (k - 1) ≡ k = omega arith in
    let at : c.index-room-k.result ≡ get_or room (k - 1) 0 =
    get_or_read room (k - 1) c.index-room-k.result (omega arith) c.index-room-k.is 0 in
    let all : take (length list) (families new list) ≡ families (map_of c.args.self.now) list =
    ap (λ n. take n (families new list)) (sym (length-map list (family new))) ∙ take-length (families new list)
    ∙ families_stay c.args.self.now c.vote_all.new.self list c.is_sound.ensures.sound done.0.went.sound
    done.0.went.keeps c.requires.knows in
    record {
      on = done.0;
      known =
          subst (λ r. KnowsOne new r (IsVotes k (families (map_of c.args.self.now) list))) (sym at)
          (subst (λ fs. KnowsOne new (get_or room (k - 1) 0) (IsVotes k fs)) all
          (subst (λ n. KnowsOne new (get_or room (k - 1) 0) (IsVotes n (take (length list) (families new list)))) last
          (done.1 (k - 1) (omega arith) (omega arith))));
    }
