-- Output through a buffer: what was put, what the sink took of it, and what waits.
use Rattle.std.specs.Prelude.{◌≡◌, ℕ, ◌≤◌, Option, List, ◌++◌, Bool, true, false, Result, OnOk}
use Rattle.std.specs.Prelude.{OnErr}
use Rattle.std.specs.Io.KnownBytes.{Appends}
use Rattle.edge_io.specs.{Writing.TakesFront, declared.out.Out.Out}
use Rattle.event_counts.specs.Count.{Rose}

-- the output to a sink of a type, through a buffer of bytes
abbrev pub Output : Type 0 → Type 0
Output K = Out K (List ℕ)

-- the sink as it stands
abbrev pub sink_of : {K : Type 0} → Output K → K
sink_of out = out.sink.now

-- what was put and is not yet written
abbrev pub waiting : {K : Type 0} → Output K → List ℕ
waiting out = out.waiting

-- a write has failed
abbrev pub has_failed : {K : Type 0} → Output K → Bool
has_failed out = out.has_failed

-- a text was put, to the same sink: it took a front of what waited and the text, and where no write failed the rest
-- waits. A write fails only by a fault. Once one has failed the sink stays as it is
pub record Puts {K : Type 0} (taken : K → Option (List ℕ)) (faults : K → ℕ) (old new : Output K)
    (text : List ℕ) : Type 0 where
  pub same_sink : new.sink.ghost_name ≡ old.sink.ghost_name
  pub front : List ℕ
  pub left : List ℕ
  pub split : waiting old ++ text ≡ front ++ left
  pub added : Appends (taken (sink_of old)) (taken (sink_of new)) front
  pub waits : has_failed new ≡ false → waiting new ≡ left
  pub stopped : has_failed old ≡ true → (has_failed new ≡ true) × (sink_of new ≡ sink_of old)
  pub rose : has_failed old ≡ false → has_failed new ≡ true → Rose (faults (sink_of old)) (faults (sink_of new))
  pub steady : faults (sink_of old) ≤ faults (sink_of new)

-- what a sink took of a text, and the answer
pub record Delivers {K W : Type 0} (taken : K → Option (List ℕ)) (faults : K → ℕ) (old new : K) (text : List ℕ)
    (answer : Result (Unit {0}) W) : Type 0 where
  pub all : OnOk answer (Appends (taken old) (taken new) text)
  pub left : List ℕ
  pub front : TakesFront taken old new text left
  pub rose : OnErr answer (Rose (faults old) (faults new))
  pub steady : faults old ≤ faults new
