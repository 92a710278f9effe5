-- The longer of two beginnings of one history.
use Rattle.std.proofs.Common.{◌≡◌, Bool, true, false, List, [], ◌∷◌}
use Rattle.std.specs.Prelude.{if◌then◌else◌, MatchBool}
use Rattle.live_board.specs.declared.entry.LiveEntry.{LiveEntry}
use Rattle.live_board.specs.Histories.{BeginsWith}
use Rattle.live_board.specs.Views.{goes_past, longer, shorter}
use Rattle.live_board.proofs.HistoryLemmas.{begins_nothing}

nothing_begins : {first : LiveEntry} {front : List LiveEntry} → BeginsWith [] (first ∷ front) → ⊥
nothing_begins begins = let e = begins.is in absurd cc

begins_head : {first other : LiveEntry} {history front : List LiveEntry}
    → BeginsWith (first ∷ history) (other ∷ front) → first ≡ other
begins_head begins = let e = begins.is in cc

begins_tail : {first other : LiveEntry} {history front : List LiveEntry}
    → BeginsWith (first ∷ history) (other ∷ front) → BeginsWith history front
begins_tail begins = let e = begins.is in record { rest = begins.rest; is = cc }

begins_cons : {first other : LiveEntry} {history front : List LiveEntry} → first ≡ other → BeginsWith history front
    → BeginsWith (first ∷ history) (other ∷ front)
begins_cons same begins = let e = begins.is in record { rest = begins.rest; is = cc }

-- of two beginnings the shorter begins the longer
pub one_begins : (v w history : List LiveEntry) → BeginsWith history v → BeginsWith history w
    → MatchBool (goes_past v w) (BeginsWith v w) (BeginsWith w v)
one_begins [] w history begins begins' = begins_nothing w
one_begins (x ∷ v) [] history begins begins' = begins_nothing (x ∷ v)
one_begins (x ∷ v) (y ∷ w) [] begins begins' = absurd (nothing_begins begins)
one_begins (x ∷ v) (y ∷ w) (z ∷ history) begins begins' =
    by_past (goes_past v w) (one_begins v w history (begins_tail begins) (begins_tail begins'))
  where
    same : x ≡ y
    same = let e = begins_head begins in let e' = begins_head begins' in cc

    by_past : (past : Bool) → MatchBool past (BeginsWith v w) (BeginsWith w v)
        → MatchBool past (BeginsWith (x ∷ v) (y ∷ w)) (BeginsWith (y ∷ w) (x ∷ v))
    by_past true later = begins_cons same later
    by_past false later = begins_cons (let e = same in cc) later

-- the longer one is a beginning, too
pub longer_begins : {v w history : List LiveEntry} → BeginsWith history v → BeginsWith history w
    → BeginsWith history (longer v w)
longer_begins {v} {w} {history} begins begins' = by_past (goes_past v w)
  where
    by_past : (past : Bool) → BeginsWith history (if past then v else w)
    by_past true = begins
    by_past false = begins'

pub shorter_begins : {v w history : List LiveEntry} → BeginsWith history v → BeginsWith history w
    → BeginsWith (longer v w) (shorter v w)
shorter_begins {v} {w} {history} begins begins' = by_past (goes_past v w) (one_begins v w history begins begins')
  where
    by_past : (past : Bool) → MatchBool past (BeginsWith v w) (BeginsWith w v)
        → BeginsWith (if past then v else w) (if past then w else v)
    by_past true later = later
    by_past false later = later
