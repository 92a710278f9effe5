use Rattle.std.proofs.Common.{pow_mono, ◌≡◌, ◌≢◌, ℕ, ◌+◌, ◌≤◌, ◌^◌, sym, ◌∙◌, ap, subst, arith}
use Rattle.zdd_words.proofs.WordLemmas.{packed-filled}
use Rattle.zdd_words.specs.Word.{packed}
use Rattle.zdd_families.specs.Family.{branch}
use Rattle.zdd_families.specs.Map.{Knows, KnowsAs, IsClosed, IsNode, Grown, family}
use Rattle.zdd_shared_table.specs.Known.{find}
use Rattle.zdd_shared_table.specs.Seats.{IsSeat, IsSound, map_of, seated}
use Rattle.zdd_shared_table.proofs.Nodes.{asked_node, grown_ended, node_ended}
use Rattle.zdd_shared_table.proofs.Nodes.{HasSearched, searched-found, searched-none, searched-size}
use Rattle.zdd_shared_table.proofs.store.NodeStore.node.Goals as goal
use Rattle.zdd_shared_table.proofs.store.NodeStore.node.Goals.{Joined-found, in-Some, in-None}

pub search-found-requires-clause-node : goal.search-found-requires-clause-node
search-found-requires-clause-node c =
    let is = ap map_of c.seat.view_is in
    let packs = c.pack-word.ensures in
    subst (λ m. IsNode m c.pack-word.result) (sym is)
    (asked_node (subst IsClosed is c.seat.invariant.sound.closed)
    packs.level_comes_back packs.lo_comes_back packs.hi_comes_back c.number.ensures.unit
    c.requires.knows_lo c.requires.knows_hi c.requires.filled c.requires.lo_above c.requires.hi_above)

pub at_slot-requires : goal.at_slot-requires
at_slot-requires c =
    let short = c.in-Some.ensures.found.0 in
    let size = c.word_count-size.ensures in
    let words = c.self.invariant.3 in
    let most : 2 ^ c.self.inside.bits ≤ 2 ^ 25 = pow_mono c.self.invariant.1 in
    omega arith

pub returns-clause-family : goal.returns-clause-family
returns-clause-family c =
    let old = c.seat.inside.place.me.0 in
    let new = c.search-found.new.seat.me.0 in
    let packs = c.pack-word.ensures in
    let some : c.pack-word.result ≢ 0 =
    λ none. packed-filled c.args.level c.args.lo c.args.hi c.number.ensures.unit.0 (sym packs.value ∙ none) in
    let of =
    λ (m : ℕ → ℕ) (r : ℕ). Knows m c.args.lo → Knows m c.args.hi → KnowsAs (find new.known) r
    (branch c.args.level (family m c.args.lo) (family m c.args.hi)) in
    elim c.match-found.branch [
      | in-Some w ↦ rw (w.result-is, w.at_slot.ensures)
          (subst (λ m. of m (w.in-Some.slot + 2)) (ap map_of c.seat.view_is)
          (node_ended w.in-Some.slot old
          w.in-Some.ensures.found.1 c.seat.invariant.sound c.search-found.ensures.sound some
          packs.level_comes_back packs.lo_comes_back packs.hi_comes_back)
          c.requires.knows_lo c.requires.knows_hi)
      | in-None w ↦ rw w.result-is tt
    ]

pub returns-clause-keeps : goal.returns-clause-keeps
returns-clause-keeps c =
    let old = c.seat.inside.place.me.0 in
    let new = c.search-found.new.seat.me.0 in
    subst (λ m. Grown m (find new.known)) (ap map_of c.seat.view_is)
    (elim c.match-found.branch [
      | in-Some w ↦ grown_ended c.pack-word.result w.in-Some.slot old w.in-Some.ensures.found.1
      | in-None w ↦ λ r has. ap (λ v. find v.known r) w.in-None.ensures.passed_all
    ])

searched : (c : Joined-found) → HasSearched c.args.self.now.words (packed c.args.level c.args.lo c.args.hi)
    c.match-found.result c.args.seat.now
    (seated c.search-found.new.seat.table_id c.search-found.new.seat.me.0)
searched c =
    let slots = c.args.self.now.words in
    let seat = c.seat.inside.place in
    let seat' = c.search-found.new.seat in
    let own : seat.table_id ≡ c.args.self.now = ap (λ s. s.store) c.seat.view_is ∙ c.requires.own in
    subst (λ word. HasSearched slots word c.match-found.result c.args.seat.now (seated seat'.table_id seat'.me.0))
    c.pack-word.ensures.value
    (subst (λ old. HasSearched slots c.pack-word.result c.match-found.result old (seated seat'.table_id seat'.me.0))
    c.seat.view_is
    (elim c.match-found.branch [
      | in-Some w ↦ rw (w.result-is, w.at_slot.ensures) (searched-found slots c.pack-word.result w.in-Some.slot
          seat.table_id seat'.table_id seat.me.0 w.in-Some.ensures.found.1)
      | in-None w ↦ rw w.result-is (searched-none c.pack-word.result _ seat.table_id seat'.table_id
          seat.me.0 (c.seat.invariant.sized ∙ ap (λ t. t.words) own) w.in-None.ensures.passed_all)
    ]))

seat_of : (c : Joined-found) → IsSeat c.search-found.new.seat.table_id c.search-found.new.seat.me
seat_of c =
    let own = c.seat.invariant in
    let stays = c.search-found.ensures.stays in
    let same = searched-size _ _ c.search-found.result c.seat.inside.place.me.0 c.search-found.new.seat.me.0
    c.search-found.ensures.found c.search-found.ensures.passed_all in
    record {
      holds_none = stays.2 ∙ own.holds_none;
      sized = same.0 ∙ (own.sized ∙ ap (λ t. t.words) (sym stays.0));
      shares = subst (λ n. 1 ≤ n) (sym same.1) own.shares;
      sound = c.search-found.ensures.sound;
    }

pub invariant_of-seat : goal.invariant_of-seat
invariant_of-seat c = seat_of c

pub returns-clause-known : goal.returns-clause-known
returns-clause-known c = (searched c).known

pub returns-clause-fulls : goal.returns-clause-fulls
returns-clause-fulls c = (searched c).fulls

pub returns-clause-missed : goal.returns-clause-missed
returns-clause-missed c = (searched c).missed

pub returns-clause-passed : goal.returns-clause-passed
returns-clause-passed c = (searched c).passed

pub returns-clause-fills : goal.returns-clause-fills
returns-clause-fills c = (searched c).fills

pub returns-clause-share : goal.returns-clause-share
returns-clause-share c = (searched c).share

pub returns-clause-store : goal.returns-clause-store
returns-clause-store c = c.search-found.ensures.stays.0 ∙ ap (λ s. s.store) c.seat.view_is

pub returns-clause-sound : goal.returns-clause-sound
returns-clause-sound c =
    let me = c.search-found.new.seat.me.0 in
    subst (λ n. IsSound n me.known me.missed me.fills) (seat_of c).sized c.search-found.ensures.sound
