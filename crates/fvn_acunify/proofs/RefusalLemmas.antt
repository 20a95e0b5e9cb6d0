-- Refusals that are handed on, and what the minimal solutions keep to.
use Rattle.std.proofs.Common.{◌≡◌, ◌≢◌, ◌↔◌, ℕ, ◌<◌, ◌≤◌, ℤ, List, length, get_or, Result, Ok, Err, All, Contains, arith}
use Rattle.std.proofs.lemmas.List.{get_or-map, length-map}
use Rattle.std.proofs.lemmas.List.Elements.{All-contains}
use Rattle.fvn_lindio.specs.Systems.{IsMinimal, vectors_of}
use Rattle.fvn_lindio.specs.Refusals.{IsTooMany, IsTooWide}
use Rattle.fvn_lindio.specs.declared.system.Solution.{Solution}
use Rattle.fvn_lindio.specs.declared.system.LinFault.{LinFault}
use Rattle.fvn_lindio.specs.declared.system.LinFault.TheVariants.{TooMany, TooWide, NoMemory}
use Rattle.fvn_acunify.specs.declared.theory.OneFault.{OneFault}
use Rattle.fvn_acunify.specs.declared.theory.OneFault.TheVariants.{Basis, NoMemory as NoRoom}
use Rattle.fvn_acunify.specs.Theory.{IsRefusal, fault_of}
use Rattle.fvn_acunify.specs.inner.Prefix.{IsBounded}

-- a call that answers too many and too wide exactly where they are so answers just the refusals
pub refused_exactly : {A : Type 0} (columns most : ℕ) (rows : List (List ℤ)) (r : Result A LinFault) → r ≢ Err NoMemory → ((k : ℕ) → (r ≡ Err (TooMany k)) ↔ IsTooMany columns rows most k) → ((k : ℕ) → (r ≡ Err (TooWide k)) ↔ IsTooWide columns rows most k) → (fault : LinFault) → (r ≡ Err fault) ↔ IsRefusal columns rows most fault
refused_exactly columns most rows r had many wide (TooMany k) = many k
refused_exactly columns most rows r had many wide (TooWide k) = wide k
refused_exactly columns most rows r had many wide NoMemory = (λ e. absurd (had e), λ h. absurd h)

-- the same refusals, handed on
pub refused-from_err : {A B : Type 0} (columns most : ℕ) (rows : List (List ℤ)) (given : LinFault) (r : Result A LinFault) (s : Result B OneFault) → r ≡ Err given → s ≡ Err (fault_of given) → s ≢ Err NoRoom → (r ≢ Err NoMemory → (k : ℕ) → (r ≡ Err (TooMany k)) ↔ IsTooMany columns rows most k) → (r ≢ Err NoMemory → (k : ℕ) → (r ≡ Err (TooWide k)) ↔ IsTooWide columns rows most k) → (fault : LinFault) → (s ≡ Err (Basis fault)) ↔ IsRefusal columns rows most fault
refused-from_err columns most rows (TooMany n) r s e f had many wide fault =
    let here : r ≢ Err NoMemory = λ g. cc in
    let exactly = refused_exactly columns most rows r here (many here) (wide here) fault in
    (λ g. exactly.0 (cc), λ h. let g : r ≡ Err fault = exactly.1 h in cc)
refused-from_err columns most rows (TooWide n) r s e f had many wide fault =
    let here : r ≢ Err NoMemory = λ g. cc in
    let exactly = refused_exactly columns most rows r here (many here) (wide here) fault in
    (λ g. exactly.0 (cc), λ h. let g : r ≡ Err fault = exactly.1 h in cc)
refused-from_err columns most rows NoMemory r s e f had many wide fault = absurd (had f)

-- where the solutions are there, nothing is refused, and only want of memory is an error
pub refused-from_ok : {A B : Type 0} (columns most : ℕ) (rows : List (List ℤ)) (given : A) (r : Result A LinFault) (s : Result B OneFault) → r ≡ Ok given → ((fault : LinFault) → s ≢ Err (Basis fault)) → (r ≢ Err NoMemory → (k : ℕ) → (r ≡ Err (TooMany k)) ↔ IsTooMany columns rows most k) → (r ≢ Err NoMemory → (k : ℕ) → (r ≡ Err (TooWide k)) ↔ IsTooWide columns rows most k) → (fault : LinFault) → (s ≡ Err (Basis fault)) ↔ IsRefusal columns rows most fault
refused-from_ok columns most rows given r s e other many wide fault =
    let here : r ≢ Err NoMemory = λ g. cc in
    let exactly = refused_exactly columns most rows r here (many here) (wide here) fault in
    (λ g. absurd (other fault g), λ h. let g : r ≡ Err fault = exactly.1 h in cc)

-- each of the solutions is one of the vectors
solution-Contains : (list : List Solution) (k : ℕ) (d : Solution) → k < length list → Contains (vectors_of list) (get_or list k d).parts
solution-Contains list k d h = (k, omega (arith, length-map list (λ v. v.parts)), get_or-map (λ v. v.parts) list k d (get_or list k d).parts h)

-- few solutions that are all minimal are of so many columns
pub IsBounded-from_minimal : (columns : ℕ) (rows : List (List ℤ)) (constants : List ℕ) (basis : List Solution) → length basis ≤ 127 → ((v : List ℕ) → Contains (vectors_of basis) v → IsMinimal columns rows v) → All (All (λ a. a ≤ 65535)) (vectors_of basis) → All (λ c. c < columns) constants → IsBounded columns constants basis
IsBounded-from_minimal columns rows constants basis few minimal narrow among = record {
  few = few;
  sized = λ k d h. (minimal (get_or basis k d).parts (solution-Contains basis k d h)).solves.sized;
  narrow = λ k d h. All-contains (All (λ a. a ≤ 65535)) (vectors_of basis) (get_or basis k d).parts narrow (solution-Contains basis k d h);
  among = among;
}
