-- What a run told: a front of its text where its sink failed, and the crews of a deck where it has some.
use Rattle.std.specs.Prelude.{◌≡◌, ℕ, List, Option, Some, None, MatchOption, Result, Ok, Err, OnOk, OnErr}
use Rattle.std.specs.Prelude.{option_copied}
use Rattle.std.specs.Io.KnownBytes.{Appends}
use Rattle.std.proofs.Common.{subst, refl, inl, inr}
use Rattle.event_counts.specs.Count.{Rose}
use Rattle.edge_io.specs.Out.{Delivers}
use Rattle.fault_definitions.specs.Tree.{FaultTree}
use Rattle.crew_script.specs.declared.dockets.Crew.{Crew}
use Rattle.board_report.specs.CheckText.{check_text}
use denote.Ref.{Bor}
use Rattle.outage_engine.specs.{declared.status.Status.Status, declared.status.Status.TheVariants.WriteFault}
use Rattle.outage_engine.specs.{Runs.Tells}

pub told_whole : {K W : Type 0} {taken : K → Option (List ℕ)} {faults : K → ℕ} {old new : K} {text : List ℕ}
    {answer : Result (Unit {0}) W} (value : Unit {0}) (status : Status) {result : Status}
    → answer ≡ Ok value → Delivers taken faults old new text answer → result ≡ status
    → Tells taken faults old new status text result
told_whole {taken} {old} {new} {text} value status is delivered same =
    inl (same, subst (λ r. OnOk r (Appends (taken old) (taken new) text)) is delivered.all)

pub told_front : {K W : Type 0} {taken : K → Option (List ℕ)} {faults : K → ℕ} {old new : K} {text : List ℕ}
    {answer : Result (Unit {0}) W} (error : W) (status : Status)
    → answer ≡ Err error → Delivers taken faults old new text answer → Tells taken faults old new status text WriteFault
told_front {faults} {old} {new} error status is delivered =
    inr (
      refl,
      record {
        rose = subst (λ r. OnErr r (Rose (faults old) (faults new))) is delivered.rose;
        left = delivered.left;
        front = delivered.front;
      },
    )

-- what is put of crews that are borrowed is put of the crews
pub check_of : (tree : FaultTree) (P : List ℕ → Type 0) (crews : Option (Bor (List Crew)))
    → MatchOption crews (P (check_text tree None)) (λ some. P (check_text tree (Some some.now)))
    → P (check_text tree (option_copied crews))
check_of tree P None holds = holds
check_of tree P (Some crews) holds = holds
