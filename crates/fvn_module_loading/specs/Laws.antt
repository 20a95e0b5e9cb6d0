-- What is proved of all texts and modules.
use Rattle.std.specs.Prelude.{◌≡◌, ◌⊎◌, ℕ, List, Option}
use Rattle.fvn_forms.specs.Good.{IsGood}
use Rattle.fvn_signature.specs.Queries.{IsCompleted}
use Rattle.fvn_theory.specs.Equations.{equations_of}
use Rattle.fvn_rewrite_laws.specs.Admissible.{AreAdmissible}
use Rattle.fvn_module.specs.declared.fault.ModuleFault.{ModuleFault}
use Rattle.fvn_module.specs.declared.fault.ModuleFault.TheVariants.{NoMemory}
use Rattle.fvn_module.specs.Contents.{Contents}
use Rattle.fvn_module.specs.Readable.{IsReadable}
use Rattle.fvn_module_loading.specs.Loading.{IsLoaded, IsLoadFault}
use Rattle.fvn_module_loading.specs.Losses.{IsLossOf}

-- A text is loaded as one module at most.
abbrev pub LoadedModulesAreDetermined : Type 0
LoadedModulesAreDetermined =
    (bytes : List ℕ) (m k : Contents) → IsLoaded bytes m → IsLoaded bytes k → m ≡ k

-- A loaded module is readable, its signature is good, with all that its queries need, and its equations are admissible.
abbrev pub LoadedModulesAreGood : Type 0
LoadedModulesAreGood =
    (bytes : List ℕ) (m : Contents) → IsLoaded bytes m →
    IsReadable m × IsGood m.signature × IsCompleted m.signature × AreAdmissible m.signature (equations_of m.equations)

-- But for want of memory, a text has one first fault at most.
abbrev pub LoadFaultsAreDetermined : Type 0
LoadFaultsAreDetermined =
    (bytes : List ℕ) (f g : ModuleFault) → IsLoadFault bytes f → IsLoadFault bytes g →
    (f ≡ NoMemory) ⊎ ((g ≡ NoMemory) ⊎ (f ≡ g))

-- But for want of memory, a text with a fault is not loaded.
abbrev pub FaultyTextsAreNotLoaded : Type 0
FaultyTextsAreNotLoaded =
    (bytes : List ℕ) (f : ModuleFault) (m : Contents) →
    IsLoadFault bytes f → IsLoaded bytes m → f ≡ NoMemory

-- A module has one first equation that loses a sort, or each equation is sort-decreasing.
abbrev pub LossesAreDetermined : Type 0
LossesAreDetermined = (m : Contents) (a b : Option ℕ) → IsLossOf m a → IsLossOf m b → a ≡ b
