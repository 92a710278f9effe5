use Rattle.std.proofs.Common.{◌≡◌, ℕ, ◌==◌, subst}
use prog.Atomic.{either}
use Rattle.atomic_table.specs.Table.{Allows}
use Rattle.zdd_shared_table.specs.{Rule.IsStore, Seats.IsSoundView, Views.exchanged}
use Rattle.zdd_shared_table.proofs.Steps.{allows_exchange}
use Rattle.zdd_shared_table.proofs.search.exchange.Goals as goal

pub compare_exchange-requires : goal.compare_exchange-requires
compare_exchange-requires g c =
    let asked = c.requires.asked in
    let seat = c.args.seat.now in
    let bits : ℕ = c.args.words.now.key in
    let slot : ℕ = c.args.slot in (
      c.requires.own,
      c.requires.inside,
      subst (λ (p : ℕ × ℕ). Allows (IsStore bits) c.args.words.now.table_id.slots seat.id seat.me slot
          (λ n. either (n == 0) c.args.word n) (λ found after. (after.0 ≡ exchanged p.0 p.1 slot found seat.me.0)
          × (after.1 ≡ seat.me.1) × IsSoundView after.0)) (λ i. (asked.0 i, asked.1 i))
          (allows_exchange c.args.words.now.table_id.slots seat.id seat.me.1 c.requires.search),
    )
