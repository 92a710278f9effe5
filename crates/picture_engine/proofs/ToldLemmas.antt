-- What a run told: a picture or a front of it, a refusal, or nothing; and what its clauses say of that.
use Rattle.std.specs.Prelude.{◌≡◌, ◌⊎◌, ℕ, List, Option, Result, Ok, Err, OnErr, OnOk}
use Rattle.std.specs.Io.KnownBytes.{Appends}
use Rattle.std.proofs.Common.{subst, sym, ◌∙◌, refl, inl, inr}
use Rattle.event_counts.specs.Count.{Rose}
use Rattle.edge_io.specs.Out.{Delivers}
use Rattle.outage_engine.specs.Runs.{WritesFront}
use Rattle.picture_engine.specs.Ends.{Notes, Refuses, Tells, WritesPicture, WritesPictureFront}
use Rattle.picture_engine.specs.Runs.{Runs, no_memory, refused, told}
use Rattle.picture_engine.specs.{declared.refusal.Refusal.Refusal, declared.end.PictureEnd.PictureEnd}
use Rattle.picture_engine.specs.declared.end.PictureEnd.TheVariants.{Done, NoMemory, Refused, WriteFault}

front_of : {K W : Type 0} {taken : K → Option (List ℕ)} {faults : K → ℕ} {old new : K} {text : List ℕ}
    {answer : Result (Unit {0}) W} (error : W) → answer ≡ Err error → Delivers taken faults old new text answer
    → WritesFront taken faults old new text
front_of {faults} {old} {new} error is delivered = record {
  rose = subst (λ r. OnErr r (Rose (faults old) (faults new))) is delivered.rose;
  left = delivered.left;
  front = delivered.front;
}

pub told_front : {K W : Type 0} {taken : K → Option (List ℕ)} {faults : K → ℕ} {old new : K} {text : List ℕ}
    {answer : Result (Unit {0}) W} (error : W) → answer ≡ Err error → Delivers taken faults old new text answer
    → Tells taken faults old new text WriteFault
told_front error is delivered = inr (refl, front_of error is delivered)

pub told_whole : {K W : Type 0} {taken : K → Option (List ℕ)} {faults : K → ℕ} {old new : K} {text : List ℕ}
    {answer : Result (Unit {0}) W} (done : Unit {0}) → answer ≡ Ok done → Delivers taken faults old new text answer
    → Tells taken faults old new text Done
told_whole {taken} {old} {new} {text} done is delivered =
    inl (refl, subst (λ r. OnOk r (Appends (taken old) (taken new) text)) is delivered.all)

-- what finishing did, whatever it answered
pub noted : {N W : Type 0} {taken : N → Option (List ℕ)} {faults : N → ℕ} {old new : N} {text : List ℕ}
    (answer : Result (Unit {0}) W) → Delivers taken faults old new text answer → Notes taken faults old new text
noted (Ok done) delivered = inl delivered.all
noted (Err error) delivered = inr (front_of error refl delivered)

-- ---- the clauses of a run

module _ {K N : Type 0} (words : List (List ℕ)) (held left : Option (List ℕ)) (rose : Type 0)
    (taken : K → Option (List ℕ)) (faults : K → ℕ) (noted_of : N → Option (List ℕ)) (note_faults : N → ℕ)
    (old new : K) (notes after : N) (result : PictureEnd)
    (runs : Runs words held left rose taken faults noted_of note_faults old new notes after result) where
  pub picture_clause : WritesPicture words held left taken old new result
  picture_clause is = elim runs [
    | no_memory other same kept ↦ absurd (let clash = sym is ∙ other in cc)
    | refused refusal other refuses ↦ absurd (let clash = sym is ∙ other in cc)
    | told text picture tells kept ↦ elim tells [
      | inl (done, added) ↦ (text, picture, added)
      | inr (fault, front) ↦ absurd (let clash = sym is ∙ fault in cc)
    ]
  ]

  pub front_clause : WritesPictureFront words held left taken faults old new result
  front_clause is = elim runs [
    | no_memory other same kept ↦ absurd (let clash = sym is ∙ other in cc)
    | refused refusal other refuses ↦ absurd (let clash = sym is ∙ other in cc)
    | told text picture tells kept ↦ elim tells [
      | inl (done, added) ↦ absurd (let clash = sym is ∙ done in cc)
      | inr (fault, front) ↦ (text, picture, front)
    ]
  ]

  pub refused_clause : (refusal : Refusal) → result ≡ Refused refusal
      → Refuses words held left rose noted_of note_faults old new notes after refusal
  refused_clause refusal is = elim runs [
    | no_memory other same kept ↦ absurd (let clash = sym is ∙ other in cc)
    | refused found other refuses ↦
        let both : Refused found ≡ Refused refusal = sym other ∙ is in
        let same : found ≡ refusal = cc in
        subst (Refuses words held left rose noted_of note_faults old new notes after) same refuses
    | told text picture tells kept ↦ elim tells [
      | inl (done, added) ↦ absurd (let clash = sym is ∙ done in cc)
      | inr (fault, front) ↦ absurd (let clash = sym is ∙ fault in cc)
    ]
  ]

  pub no_memory_clause : result ≡ NoMemory → (new ≡ old) × (after ≡ notes)
  no_memory_clause is = elim runs [
    | no_memory other same kept ↦ (same, kept)
    | refused refusal other refuses ↦ absurd (let clash = sym is ∙ other in cc)
    | told text picture tells kept ↦ elim tells [
      | inl (done, added) ↦ absurd (let clash = sym is ∙ done in cc)
      | inr (fault, front) ↦ absurd (let clash = sym is ∙ fault in cc)
    ]
  ]

  pub unnoted_clause : (result ≡ Done) ⊎ (result ≡ WriteFault) → after ≡ notes
  unnoted_clause is = elim runs [
    | no_memory other same kept ↦ kept
    | refused refusal other refuses ↦ elim is [
      | inl done ↦ absurd (let clash = sym done ∙ other in cc)
      | inr fault ↦ absurd (let clash = sym fault ∙ other in cc)
    ]
    | told text picture tells kept ↦ kept
  ]
