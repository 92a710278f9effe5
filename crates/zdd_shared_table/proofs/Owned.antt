-- Each filled slot stays known to some seat, whatever step is made; so a filled word stays.
use Rattle.std.proofs.Common.{◌≡◌, ◌≢◌, ℕ, zero, suc, ◌+◌, ◌==◌, List, [], ◌∷◌, ◌++◌, get_or, set, sym, ◌∙◌, ap}
use Rattle.std.proofs.Common.{subst, refl, if◌then◌else◌}
use mathlib.Core.Logic.{dite}
use mathlib.Core.Option.{some, some-ne-none, some-injective}
use native.Mathlib.Decide.{ℕ_discrete}
use lib.ListN.{get_elem?}
use Rattle.atomic_table.specs.Table.{State}
use Rattle.atomic_table.proofs.Lists.{set_else}
use Rattle.zdd_shared_table.specs.{Known.find, declared.view.View.View}
use Rattle.zdd_shared_table.specs.Views.{learned, filled, passed_on, loaded, exchanged, joined}
use Rattle.zdd_shared_table.specs.Rule.{ForgetsNothing, IsKnownBySome, IsStore}
use Rattle.zdd_shared_table.proofs.{Filling.IsGrown-placed, Maps.find-front, Maps.placed-slot}
use Rattle.zdd_shared_table.proofs.Views.{by_slot, by_passed}

-- all that a view knows another knows too, of a table of the same size
pub record Keeps (v w : View) : Type 0 where
  pub size : w.size ≡ v.size
  pub known : (reference : ℕ) → find v.known reference ≢ 0 → find w.known reference ≢ 0

-- a seat's new view stands among the views
pub stands : (views : List View) (seat : ℕ) (v w : View) → get_elem? views seat ≡ some v
    → get_elem? (set views seat w) seat ≡ some w
stands [] seat v w at = absurd (some-ne-none v (sym at))
stands (x ∷ views) zero v w at = refl
stands (x ∷ views) (suc seat) v w at = stands views seat v w at

same_view : (views : List View) {seat other : ℕ} (v w : View) → get_elem? views seat ≡ some v
    → get_elem? views other ≡ some w → other ≡ seat → w ≡ v
same_view views v w at there same = some-injective w v (sym there ∙ (ap (get_elem? views) same ∙ at))

keeps_front : (v : View) (more : List (ℕ × ℕ)) (reference : ℕ) → find v.known reference ≢ 0
    → find (v.known ++ more) reference ≢ 0
keeps_front v more reference known none = known (sym (find-front v.known more reference known) ∙ none)

pub keeps_same : (v : View) → Keeps v v
keeps_same v = record { size = refl; known = λ reference known. known }

pub keeps_filled : (word slot : ℕ) (v : View) → Keeps v (filled word slot v)
keeps_filled word slot v = record { size = refl; known = keeps_front v ((slot + 2, word) ∷ []) }

pub keeps_joined : (v w : View) → Keeps v (joined v w)
keeps_joined v w = record { size = refl; known = keeps_front v w.known }

-- a search keeps what was known, whatever its step starts from
keeps_searched : (word before slot found : ℕ) (v start : View) → Keeps v start
    → Keeps v (if found == 0 then start else (if found == word then learned word slot v else passed_on word before v))
keeps_searched word before slot found v start keeps =
    by_slot (Keeps v) word before slot found v start (λ _. keeps)
    (λ _ _. record { size = refl; known = keeps_front v ((slot + 2, word) ∷ []) })
    (λ _ _. by_passed (Keeps v) word before v (λ _. record { size = refl; known = λ reference known. known })
    record { size = refl; known = λ reference known. known })

pub keeps_loaded : (word before slot found : ℕ) (v : View) → Keeps v (loaded word before slot found v)
keeps_loaded word before slot found v = keeps_searched word before slot found v v (keeps_same v)

pub keeps_exchanged : (word before slot found : ℕ) (v : View) → Keeps v (exchanged word before slot found v)
keeps_exchanged word before slot found v =
    keeps_searched word before slot found v (filled word slot v) (keeps_filled word slot v)

-- a seat's view becomes one that keeps what it knew
pub still_known : {views : List View} (seat : ℕ) {v w : View} → get_elem? views seat ≡ some v → Keeps v w → {slot : ℕ}
    → IsKnownBySome views slot → IsKnownBySome (set views seat w) slot
still_known {views} seat {v} {w} mine keeps {slot} by =
    dite (ℕ_discrete by.seat seat)
    (λ same. record {
      seat = seat;
      view = w;
      at = stands views seat v w mine;
      knows =
          keeps.known (slot + 2) (subst (λ (u : View). find u.known (slot + 2) ≢ 0)
          (same_view views v by.view mine by.at same) by.knows);
    })
    (λ other. record {
      seat = by.seat;
      view = by.view;
      at = set_else views seat by.seat w other ∙ by.at;
      knows = by.knows;
    })

-- one view more at the end
pub known_among_more : {views : List View} (more : View) {slot : ℕ} → IsKnownBySome views slot
    → IsKnownBySome (views ++ more ∷ []) slot
known_among_more {views} more by =
    record { seat = by.seat; view = by.view; at = front views by.seat by.at; knows = by.knows }
  where
    front : (vs : List View) (k : ℕ) → get_elem? vs k ≡ some by.view → get_elem? (vs ++ more ∷ []) k ≡ some by.view
    front [] k at = absurd (some-ne-none by.view (sym at))
    front (x ∷ vs) zero at = at
    front (x ∷ vs) (suc k) at = front vs k at

-- what a spent seat knew, the one that took it in knows
pub known_after_join : {views : List View} {seat other : ℕ} (w both left : View) → other ≢ seat
    → get_elem? views seat ≡ some both → get_elem? views other ≡ some w
    → ((reference : ℕ) → find w.known reference ≢ 0 → find both.known reference ≢ 0) → {slot : ℕ}
    → IsKnownBySome views slot → IsKnownBySome (set views other left) slot
known_after_join {views} {seat} {other} w both left differ mine theirs takes {slot} by =
    dite (ℕ_discrete by.seat other)
    (λ same. record {
      seat = seat;
      view = both;
      at = set_else views other seat left (λ e. differ (sym e)) ∙ mine;
      knows =
          takes (slot + 2) (subst (λ (u : View). find u.known (slot + 2) ≢ 0)
          (same_view views w by.view theirs by.at same) by.knows);
    })
    (λ different. record {
      seat = by.seat;
      view = by.view;
      at = set_else views other by.seat left different ∙ by.at;
      knows = by.knows;
    })

-- a filled word stays as long as no seat's knowledge is lost
pub filled_stays : (bits : ℕ) (before after : State (Unit {0}) View) → IsStore bits before → IsStore bits after
    → ForgetsNothing before.views after.views
    → (slot : ℕ) → get_or before.words slot 0 ≢ 0 → get_or after.words slot 0 ≡ get_or before.words slot 0
filled_stays bits before after rule rule' remembers slot full =
    let by = rule.owned slot full in
    let later = remembers by.seat (slot + 2) by.view by.at by.knows in
    let earlier = IsGrown-placed (rule.views by.seat by.view by.at) (slot + 2) by.knows in
    let now =
    IsGrown-placed (rule'.views later.0 later.1 later.2) (slot + 2) (λ none. by.knows (sym later.3 ∙ none)) in
    sym (placed-slot after.words slot) ∙ (now ∙ (later.3 ∙ (sym earlier ∙ placed-slot before.words slot)))
