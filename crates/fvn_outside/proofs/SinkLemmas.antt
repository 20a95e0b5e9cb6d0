-- Writes one after another.
use Rattle.std.proofs.Common.{◌≡◌, ◌+◌, ◌≤◌, ◌++◌, ℕ, List, Option, Some, None, length, take, drop, ap, ◌∙◌, append_assoc}
use Rattle.std.proofs.Math.Seq.{take-add}
use Rattle.fvn_outside.specs.Sink.{Appends}

-- what write_all has done when its first `done` bytes are written, without a fault
pub record IsWrittenTo (before after : Option (List ℕ)) (bytes : List ℕ) (done : ℕ) (faults_before faults_after : ℕ) : Type 0 where
  pub within : done ≤ length bytes
  pub appended : Appends before after (take done bytes)
  pub never_falls : faults_before ≤ faults_after
  pub uncounted : faults_after ≡ faults_before

pub Appends-append : (a b c : Option (List ℕ)) (xs ys : List ℕ) → Appends a b xs → Appends b c ys → Appends a c (xs ++ ys)
Appends-append None b c xs ys h k = rw h at k
Appends-append (Some ws) b c xs ys h k = (rw h at k) ∙ ap Some (append_assoc ws xs ys)

-- what is written in two writes is a front
pub Appends-take : (a b c : Option (List ℕ)) (m n : ℕ) (xs : List ℕ) → Appends a b (take m xs) → Appends b c (take n (drop m xs)) → Appends a c (take (m + n) xs)
Appends-take a b c m n xs h k = rw (take-add m n xs) (Appends-append a b c (take m xs) (take n (drop m xs)) h k)
