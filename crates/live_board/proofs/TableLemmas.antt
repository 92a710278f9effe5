-- A live board that is opened keeps its rule.
use Rattle.std.proofs.Common.{◌≡◌, ℕ, zero, suc, ◌-◌, false, [], ◌∷◌, refl, sym, ◌∙◌, ap, subst, arith, inl}
use Rattle.std.specs.declared.snapshot.Snapshot.{Snapshot}
use Rattle.std.proofs.lemmas.List.Elements.{All-nil, All-cons}
use mathlib.Core.Option.{some, some-injective, some-ne-none}
use lib.ListN.{get_elem?}
use Rattle.atomic_table.specs.Table.{opening}
use Rattle.live_board.specs.{declared.view.View.View, declared.view.Own.Own, Histories.made_by, Boards.LiveView}
use Rattle.live_board.specs.Views.{numbers_from, nothing_under, first_view}
use Rattle.live_board.specs.Rule.{Knows, KeepsHistory}
use Rattle.live_board.proofs.{HistoryLemmas.begins_nothing}
use Rattle.live_board.proofs.OwnLemmas.{times_among-first, times_once, nothing_made}

pub opens_table : (about : Snapshot LiveView) (state : LiveView) → about.value ≡ state → state.history ≡ []
    → KeepsHistory about (opening (0 ∷ []) (state ∷ []) (first_view about.value))
opens_table about state same empty =
    let opened = about.value in
    let home : some state ∷ [] ≡ some (record { setup = opened.setup; history = [] }) ∷ [] =
    ap (λ (b : LiveView). some b ∷ []) (ap (λ h. record state { history = h }) empty)
    ∙ ap (λ (b : LiveView). some (record { setup = b.setup; history = [] }) ∷ []) (sym same) in
    record {
      history = [];
      stands = inl (record {
        word = refl;
        home = home;
        none_turned = λ seat v at. subst (λ (x : View). x.turn ≡ false) (only seat v at) refl;
      });
      views = λ seat v at. subst (Knows opened.setup []) (only seat v at)
          (record {
            of = λ _. record { opened = refl; named = times_among-first 0 [] };
            seen = begins_nothing [];
            told = begins_nothing [];
            own =
                All-cons (λ (o : Own). made_by o.pass [] ≡ o.entries) (nothing_under 0) [] refl
                (All-nil (λ (o : Own). made_by o.pass [] ≡ o.entries));
            spare = nothing_made (numbers_from 1 (opened.setup.passes - 1));
          });
      once = λ number. let o = times_once number 0 (suc (opened.setup.passes - 1)) in omega arith;
    }
  where
    only : (seat : ℕ) (v : View) → get_elem? (first_view about.value ∷ []) seat ≡ some v → first_view about.value ≡ v
    only zero v at = some-injective (first_view about.value) v at
    only (suc seat) v at = absurd (some-ne-none v (sym at))
