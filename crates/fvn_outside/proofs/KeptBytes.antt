-- What an interrupted read or write leaves as it was.
use Rattle.std.specs.Prelude.{◌≡◌, ℕ, List, Option}
use Rattle.std.specs.Io.KnownBytes.{Keeps}

-- known bytes were kept and no fault was counted
pub record IsUntouched (before after : Option (List ℕ)) (faults_before faults_after : ℕ) : Type 0 where
  pub kept : Keeps before after
  pub uncounted : faults_after ≡ faults_before
