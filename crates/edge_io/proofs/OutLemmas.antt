-- What follows from the definitions of `specs/Out`.
use Rattle.std.specs.Prelude.{◌≡◌, ℕ, ◌≤◌, Option, List, [], ◌++◌, Bool, true, false, refl, Result, Ok, Err, OnOk}
use Rattle.std.specs.Prelude.{OnErr, IsErr}
use Rattle.std.proofs.Common.{sym, ap, subst, ◌∙◌, arith, true≢false, append-nil, append_assoc}
use Rattle.std.proofs.KnownBytes.{Appends-nil, Appends-trans}
use Rattle.std.specs.Io.KnownBytes.{Appends}
use Rattle.std.proofs.lemmas.Result.{IfOk-from_err, on_ok_weaker, on_err_weaker}
use Rattle.edge_io.specs.Writing.{TakesFront}
use Rattle.event_counts.specs.Count.{Rose}
use Rattle.event_counts.proofs.CountLemmas.{Rose-later}
use Rattle.edge_io.specs.Out.{Delivers, Output, Puts, has_failed, sink_of, waiting}

-- nothing put
pub Puts-none : {K : Type 0} {taken : K → Option (List ℕ)} {faults : K → ℕ} {out : Output K}
    → Puts taken faults out out []
Puts-none {taken} {out} = record {
  same_sink = refl;
  front = [];
  left = waiting out;
  split = append-nil (waiting out);
  added = Appends-nil (taken (sink_of out));
  waits = λ _. refl;
  stopped = λ failed. (failed, refl);
  rose = λ fine failed. absurd (true≢false (sym failed ∙ fine));
  steady = omega arith;
}

-- a text put while a write had failed before
pub Puts-failed : {K : Type 0} {taken : K → Option (List ℕ)} {faults : K → ℕ} {out : Output K} {text : List ℕ}
    → has_failed out ≡ true → Puts taken faults out out text
Puts-failed {taken} {out} {text} failed = record {
  same_sink = refl;
  front = [];
  left = waiting out ++ text;
  split = refl;
  added = Appends-nil (taken (sink_of out));
  waits = λ fine. absurd (true≢false (sym failed ∙ fine));
  stopped = λ failed. (failed, refl);
  rose = λ fine failed. absurd (true≢false (sym failed ∙ fine));
  steady = omega arith;
}

-- a text that waits
pub Puts-held : {K : Type 0} {taken : K → Option (List ℕ)} {faults : K → ℕ} {old new : Output K} {text : List ℕ}
    → new.sink ≡ old.sink → new.waiting ≡ old.waiting ++ text → new.has_failed ≡ old.has_failed
    → Puts taken faults old new text
Puts-held {taken} {faults} {old} {text} sink grown state = record {
  same_sink = ap (λ s. s.ghost_name) sink;
  front = [];
  left = waiting old ++ text;
  split = refl;
  added = subst (λ s. Appends (taken (sink_of old)) (taken s.now) []) (sym sink) (Appends-nil (taken (sink_of old)));
  waits = λ _. grown;
  stopped = λ failed. (state ∙ failed, ap (λ s. s.now) sink);
  rose = λ fine failed. absurd (true≢false (sym failed ∙ state ∙ fine));
  steady = subst (λ s. faults (sink_of old) ≤ faults s.now) (sym sink) (omega arith);
}

-- one text put behind another: where the first put failed the second wrote nothing
pub Puts-trans : {K : Type 0} {taken : K → Option (List ℕ)} {faults : K → ℕ} {old mid new : Output K}
    {text more : List ℕ}
    → Puts taken faults old mid text → Puts taken faults mid new more → Puts taken faults old new (text ++ more)
Puts-trans {taken} {faults} {old} {mid} {new} {text} {more} first second =
    let same = second.same_sink ∙ first.same_sink in
    let steady : faults (sink_of old) ≤ faults (sink_of new) = omega (arith, first.steady, second.steady) in
    let stopped : has_failed old ≡ true → (has_failed new ≡ true) × (sink_of new ≡ sink_of old) =
    λ failed. let one = first.stopped failed in let two = second.stopped one.0 in (two.0, two.1 ∙ one.1) in
    let P : Bool → Type 0 = λ b. has_failed mid ≡ b → Puts taken faults old new (text ++ more) in
    let after_failure : P true = λ failed.
    let two = second.stopped failed in
    record {
      same_sink = same;
      front = first.front;
      left = first.left ++ more;
      split =
          sym (append_assoc (waiting old) text more) ∙ ap (λ l. l ++ more) first.split
          ∙ append_assoc first.front first.left more;
      added = subst (λ s. Appends (taken (sink_of old)) (taken s) first.front) (sym two.1) first.added;
      waits = λ fine. absurd (true≢false (sym two.0 ∙ fine));
      stopped = stopped;
      rose = λ fine _. subst (λ s. Rose (faults (sink_of old)) (faults s)) (sym two.1) (first.rose fine failed);
      steady = steady;
    } in
    let after_success : P false = λ fine.
    let joined : waiting old ++ (text ++ more) ≡ (first.front ++ second.front) ++ second.left =
    sym (append_assoc (waiting old) text more) ∙ ap (λ l. l ++ more) first.split
    ∙ append_assoc first.front first.left more
    ∙ ap (λ l. first.front ++ (l ++ more)) (sym (first.waits fine)) ∙ ap (λ l. first.front ++ l) second.split
    ∙ sym (append_assoc first.front second.front second.left) in
    record {
      same_sink = same;
      front = first.front ++ second.front;
      left = second.left;
      split = joined;
      added =
          Appends-trans (taken (sink_of old)) (taken (sink_of mid)) (taken (sink_of new)) first.front second.front
          first.added second.added;
      waits = second.waits;
      stopped = stopped;
      rose =
          λ _ failed. Rose-later (faults (sink_of old)) (faults (sink_of mid)) first.steady (second.rose fine failed);
      steady = steady;
    } in
    elim (has_failed mid) as P [ true ↦ after_failure | false ↦ after_success ] refl

-- a fact holds where an answer is an error
OnErr-always : {T E P : Type 0} (answer : Result T E) → P → OnErr answer P
OnErr-always (Ok x) fact = tt
OnErr-always (Err e) fact = fact

-- a text that was put first, and then finished
pub Puts-finished : {K W : Type 0} {taken : K → Option (List ℕ)} {faults : K → ℕ} {old out : Output K} {new : K}
    {text left : List ℕ} (answer : Result (Unit {0}) W)
    → waiting old ≡ [] → has_failed old ≡ false → Puts taken faults old out text
    → OnOk answer (Appends (taken (sink_of out)) (taken new) (waiting out))
    → TakesFront taken (sink_of out) new (waiting out) left
    → (has_failed out ≡ false → OnErr answer (Rose (faults (sink_of out)) (faults new)))
    → (has_failed out ≡ true → IsErr answer × (new ≡ sink_of out))
    → faults (sink_of out) ≤ faults new
    → Delivers taken faults (sink_of old) new text answer
Puts-finished {K} {W} {taken} {faults} {old} {out} {new} {text} {left} answer none fine puts all front rose stopped
    steady =
    let whole : text ≡ puts.front ++ puts.left = subst (λ l. l ++ text ≡ puts.front ++ puts.left) none puts.split in
    let P : Bool → Type 0 = λ b. has_failed out ≡ b → Delivers taken faults (sink_of old) new text answer in
    let after_failure : P true = λ failed.
    let end = stopped failed in
    record {
      all = IfOk-from_err answer (λ _. Appends (taken (sink_of old)) (taken new) text) end.0;
      left = puts.left;
      front =
          record {
            front = puts.front;
            split = whole;
            added =
                subst (λ s. Appends (taken (sink_of old)) (taken s) puts.front) (sym end.1) puts.added;
          };
      rose =
          OnErr-always answer (subst (λ s. Rose (faults (sink_of old)) (faults s)) (sym end.1) (puts.rose fine failed));
      steady = omega (arith, puts.steady, steady);
    } in
    let after_success : P false = λ going.
    let waits : waiting out ≡ puts.left = puts.waits going in
    record {
      all = on_ok_weaker answer
          (λ added. subst (Appends (taken (sink_of old)) (taken new)) (ap (λ l. puts.front ++ l) waits ∙ sym whole)
          (Appends-trans (taken (sink_of old)) (taken (sink_of out)) (taken new) puts.front (waiting out) puts.added
          added))
          all;
      left = left;
      front = record {
        front = puts.front ++ front.front;
        split =
            whole ∙ ap (λ l. puts.front ++ l) (sym waits ∙ front.split)
            ∙ sym (append_assoc puts.front front.front left);
        added =
            Appends-trans (taken (sink_of old)) (taken (sink_of out)) (taken new) puts.front front.front puts.added
            front.added;
      };
      rose =
          on_err_weaker answer (Rose-later (faults (sink_of old)) (faults (sink_of out)) {new = faults new} puts.steady)
          (rose going);
      steady = omega (arith, puts.steady, steady);
    } in
    elim (has_failed out) as P [ true ↦ after_failure | false ↦ after_success ] refl
