-- The first sum operator whose system is refused.
use Rattle.std.specs.Prelude.{◌≡◌, ℕ, ◌<◌, List, slice_get, Some}
use Rattle.fvn_terms.specs.declared.plain.OpId.{OpId}
use Rattle.fvn_lindio.specs.declared.system.System.{System}
use Rattle.fvn_flat.specs.Solving.{IsRefused}
use Rattle.fvn_combine_leaves.specs.declared.reading.Sums.{Sums}
use Rattle.fvn_combine_candidates.specs.declared.opening.OpenFault.{OpenFault}
use Rattle.fvn_combine_candidates.specs.declared.opening.OpenFault.TheVariants.{Basis, NoMemory}

-- f with its system is the first of the sum operators whose system is refused
pub record IsFirstRefused (sums : List Sums) (f : OpId) (system : System) : Type 0 where
  pub place : ℕ
  pub entry : Sums
  pub at : slice_get sums place ≡ Some entry
  pub is_operator : entry.operator ≡ f
  pub is_system : entry.system ≡ system
  pub refused : IsRefused system
  pub first : (i : ℕ) (e : Sums) → i < place → slice_get sums i ≡ Some e → IsRefused e.system → ⊥

-- why there are no minimal solutions of all sum operators
abbrev pub IsOpenFault : List Sums → OpenFault → Type 0
IsOpenFault sums (Basis f system) = IsFirstRefused sums f system
IsOpenFault sums NoMemory = Unit {0}
