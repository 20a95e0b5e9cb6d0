-- What a theory keeps to, and where its system is refused.
use Rattle.std.specs.Prelude.{◌≡◌, ◌≢◌, ℕ, ◌<◌, ℤ, List, length, All, AllPairs}
use Rattle.fvn_lindio.specs.Systems.{IsSystem}
use Rattle.fvn_lindio.specs.Refusals.{IsTooMany, IsTooWide}
use Rattle.fvn_lindio.specs.declared.system.LinFault.{LinFault}
use Rattle.fvn_lindio.specs.declared.system.LinFault.TheVariants.{TooMany, TooWide, NoMemory}
use Rattle.fvn_acunify.specs.declared.theory.OneTheory.{OneTheory}
use Rattle.fvn_acunify.specs.declared.theory.OneFault.{OneFault}
use Rattle.fvn_acunify.specs.declared.theory.OneFault.TheVariants.{Basis, NoMemory as NoRoom}

-- a system, one mark a column, and different columns as constants
pub record IsOneTheory (t : OneTheory) : Type 0 where
  pub system : IsSystem t.system
  pub marked : length t.may_be_zero ≡ t.system.columns
  pub among : All (λ c. c < t.system.columns) t.constants
  pub apart : AllPairs ◌≢◌ t.constants

-- the rows are refused for this reason; want of memory is no refusal
abbrev pub IsRefusal : ℕ → List (List ℤ) → ℕ → LinFault → Type 0
IsRefusal columns rows most (TooMany k) = IsTooMany columns rows most k
IsRefusal columns rows most (TooWide k) = IsTooWide columns rows most k
IsRefusal columns rows most NoMemory = ⊥

-- a refusal is handed on; want of memory stays want of memory
abbrev pub fault_of : LinFault → OneFault
fault_of (TooMany k) = Basis (TooMany k)
fault_of (TooWide k) = Basis (TooWide k)
fault_of NoMemory = NoRoom
