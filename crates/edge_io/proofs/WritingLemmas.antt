-- A loop that writes some bytes, write after write.
use Rattle.std.proofs.Common.{◌≡◌, ℕ, ◌+◌, ◌-◌, ◌<◌, ◌≤◌, Option, Some, None, List, [], ◌++◌, length, take, drop, sym}
use Rattle.std.proofs.Common.{ap, subst, ◌∙◌, arith, length-drop, take-append-drop, append-nil}
use Rattle.std.proofs.Math.Seq.{take-add}
use Rattle.std.proofs.lemmas.List.{drop-drop, take_all}
use Rattle.std.specs.Io.KnownBytes.{Appends, Keeps}
use Rattle.std.proofs.KnownBytes.{Appends-nil, Appends-trans}
use Rattle.edge_io.specs.Writing.{Writes, unwritten, write_more, TakesFront}

-- so many bytes are written
pub record Written {K : Type 0} (taken : K → Option (List ℕ)) (faults : K → ℕ)
    (writes : K → List ℕ → Option ℕ → K → Type 0) (old new : K) (bytes : List ℕ) (done : ℕ) : Type 0 where
  pub within : done ≤ length bytes
  pub added : Appends (taken old) (taken new) (take done bytes)
  pub steady : faults old ≤ faults new
  pub run : Writes writes old bytes (drop done bytes) new

pub Written-none : {K : Type 0} {taken : K → Option (List ℕ)} {faults : K → ℕ}
    {writes : K → List ℕ → Option ℕ → K → Type 0} {old : K} {bytes : List ℕ}
    → Written taken faults writes old old bytes 0
Written-none {taken} {old} = record {
  within = omega arith;
  added = Appends-nil (taken old);
  steady = omega arith;
  run = unwritten;
}

-- what one more write is of
pub left_all : (bytes : List ℕ) (done : ℕ) → take (length bytes - done) (drop done bytes) ≡ drop done bytes
left_all bytes done = take_all (length bytes - done) (drop done bytes) (omega (arith, length-drop done bytes))

-- one more write, of all that was left, took so many
pub Written-more : {K : Type 0} {taken : K → Option (List ℕ)} {faults : K → ℕ}
    {writes : K → List ℕ → Option ℕ → K → Type 0} {old mid new : K} {bytes left : List ℕ} (done n : ℕ)
    → Written taken faults writes old mid bytes done → left ≡ drop done bytes → 0 < n → n ≤ length left
    → Appends (taken mid) (taken new) (take n left) → faults mid ≤ faults new → writes mid left (Some n) new
    → Written taken faults writes old new bytes (done + n)
Written-more {taken} {writes} {old} {mid} {new} {bytes} {left} done n w e some fits added steady step =
    let count : length left ≡ length bytes - done = ap length e ∙ length-drop done bytes in
    let taken_all : take done bytes ++ take n left ≡ take (done + n) bytes =
    ap (λ l. take done bytes ++ take n l) e ∙ sym (take-add done n bytes) in
    let rest : drop n left ≡ drop (done + n) bytes = ap (drop n) e ∙ drop-drop n done bytes in
    record {
      within = omega arith;
      added =
          subst (Appends (taken old) (taken new)) taken_all
          (Appends-trans (taken old) (taken mid) (taken new) (take done bytes) (take n left) w.added added);
      steady = omega arith;
      run =
          subst (λ l. Writes writes old bytes l new) rest
          (write_more left mid new n (subst (λ l. Writes writes old bytes l mid) (sym e) w.run) some step);
    }

-- the front that is written, and what is left, after a write that took nothing
pub Written-front : {K : Type 0} {taken : K → Option (List ℕ)} {faults : K → ℕ}
    {writes : K → List ℕ → Option ℕ → K → Type 0} {old mid new : K} {bytes : List ℕ} (done : ℕ)
    → Written taken faults writes old mid bytes done → Appends (taken mid) (taken new) []
    → TakesFront taken old new bytes (drop done bytes)
Written-front {taken} {old} {mid} {new} {bytes} done w nothing = record {
  front = take done bytes;
  split = sym (take-append-drop done bytes);
  added =
      subst (Appends (taken old) (taken new)) (append-nil (take done bytes))
      (Appends-trans (taken old) (taken mid) (taken new) (take done bytes) [] w.added nothing);
}

-- what is left as it was took nothing
pub Appends-nothing : (old new : Option (List ℕ)) → Keeps old new → Appends old new []
Appends-nothing None new kept = tt
Appends-nothing (Some xs) None kept = absurd kept
Appends-nothing (Some xs) (Some ys) kept = kept ∙ sym (append-nil xs)
