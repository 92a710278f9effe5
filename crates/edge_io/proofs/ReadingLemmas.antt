-- A loop that reads an input, read after read.
use Rattle.std.proofs.Common.{◌≡◌, ℕ, ◌+◌, ◌<◌, ◌≤◌, Option, Some, List, [], ◌++◌, length, take, sym, subst, arith}
use Rattle.std.proofs.Common.{length-take, length-append}
use Rattle.std.specs.Io.KnownBytes.{Consumes}
use Rattle.std.proofs.KnownBytes.{Consumes-nil, Consumes-trans}
use Rattle.edge_io.specs.Reading.{Reads, unread, read_more}

-- so many bytes were read, fewer than are too many
pub record HasRead {S : Type 0} (held : S → Option (List ℕ)) (faults : S → ℕ)
    (reads : S → ℕ → Option (List ℕ) → S → Type 0) (old new : S) (bytes : List ℕ) (limit : ℕ) : Type 0 where
  pub within : length bytes ≤ limit
  pub taken : Consumes (held old) (held new) bytes
  pub steady : faults old ≤ faults new
  pub run : Reads reads old bytes new

pub HasRead-none : {S : Type 0} (held : S → Option (List ℕ)) (faults : S → ℕ)
    (reads : S → ℕ → Option (List ℕ) → S → Type 0) (old : S) {bytes : List ℕ} (limit : ℕ)
    → bytes ≡ [] → HasRead held faults reads old old bytes limit
HasRead-none held faults reads old limit e =
    subst (λ l. HasRead held faults reads old old l limit) (sym e) (record {
      within = omega arith;
      taken = Consumes-nil (held old);
      steady = omega arith;
      run = unread;
    })

-- one more read gave a piece
pub Reads-more : {S : Type 0} (reads : S → ℕ → Option (List ℕ) → S → Type 0) (old mid new : S) (bytes into : List ℕ)
    (n : ℕ)
    → Reads reads old bytes mid → 0 < n → n ≤ length into → reads mid (length into) (Some (take n into)) new
    → Reads reads old (bytes ++ take n into) new
Reads-more reads old mid new bytes into n run some fits step =
    let count = length-take n into in
    read_more bytes (take n into) mid new (length into) run (omega arith) step

pub HasRead-more : {S : Type 0} (held : S → Option (List ℕ)) (faults : S → ℕ)
    (reads : S → ℕ → Option (List ℕ) → S → Type 0) (old mid new : S) (bytes into : List ℕ) {grown : List ℕ}
    (limit n : ℕ)
    → HasRead held faults reads old mid bytes limit → grown ≡ bytes ++ take n into → length bytes + n ≤ limit → 0 < n
    → n ≤ length into
    → Consumes (held mid) (held new) (take n into) → faults mid ≤ faults new
    → reads mid (length into) (Some (take n into)) new
    → HasRead held faults reads old new grown limit
HasRead-more held faults reads old mid new bytes into limit n h e room some fits next steady step =
    let count = length-take n into in
    let both = length-append bytes (take n into) in
    subst (λ l. HasRead held faults reads old new l limit) (sym e) (record {
      within = omega arith;
      taken = Consumes-trans (held old) (held mid) (held new) bytes (take n into) h.taken next;
      steady = omega arith;
      run = Reads-more reads old mid new bytes into n h.run some fits step;
    })
