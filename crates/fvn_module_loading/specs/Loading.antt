-- Which texts are loaded, and the first fault of others.
use Rattle.std.specs.Prelude.{◌≡◌, ◌⊎◌, ℕ, List}
use Rattle.fvn_module.specs.declared.fault.Place.TheVariants as place
use Rattle.fvn_module.specs.declared.fault.ModuleFault.{ModuleFault}
use Rattle.fvn_module.specs.declared.fault.ModuleFault.TheVariants.{VariableLeft, IdentityLeft, TooMany, NoMemory}
use Rattle.fvn_module.specs.Contents.{Contents}
use Rattle.fvn_module.specs.ModuleText.{IsModule}
use Rattle.fvn_module.specs.Refusals.{Refuses}
use Rattle.fvn_cohere.specs.declared.faults.LeftFault.{LeftFault}
use Rattle.fvn_cohere.specs.declared.faults.LeftFault.TheVariants.{TooManyInstances, BecomesVariable, BecomesIdentity}
use Rattle.fvn_cohere.specs.LeftFaults.{AreHarmless, IsFirstLeftFault}
use Rattle.fvn_theory.specs.Equations.{equations_of}

-- what is wrong with a left side, as a fault of its module
abbrev pub fault_of_left : LeftFault → ModuleFault
fault_of_left (TooManyInstances k) = TooMany (place.Equation k)
fault_of_left (BecomesVariable k) = VariableLeft k
fault_of_left (BecomesIdentity k) = IdentityLeft k

module _ (m : Contents) where
  -- each left side has few instances, and becomes neither a variable nor an identity
  abbrev pub HasHarmlessSides : Type 0
  HasHarmlessSides = AreHarmless m.signature (equations_of m.equations)

  -- of the left sides, the first that is at fault has this fault
  pub record HasLeftFault (fault : ModuleFault) : Type 0 where
    pub left : LeftFault
    pub first : IsFirstLeftFault m.signature (equations_of m.equations) left
    pub fault_is : fault ≡ fault_of_left left

module _ (bytes : List ℕ) where
  -- the bytes are this module, and no left side of it is at fault
  pub record IsLoaded (m : Contents) : Type 0 where
    pub is_module : IsModule bytes m
    pub harmless : HasHarmlessSides m

  -- the bytes are a module, and this is the fault of its first left side at fault
  pub record IsModuleWithFault (fault : ModuleFault) : Type 0 where
    pub contents : Contents
    pub is_module : IsModule bytes contents
    pub left_fault : HasLeftFault contents fault

  -- The first fault of the bytes: that with which they are no module, or else that of a left side. Want of memory says
  -- nothing of them; the number of bytes is not asked here.
  abbrev pub IsLoadFault : ModuleFault → Type 0
  IsLoadFault fault = Refuses bytes fault ⊎ IsModuleWithFault fault

  -- the bytes are loaded as nothing else
  abbrev pub IsOnlyLoaded : Contents → Type 0
  IsOnlyLoaded m = (other : Contents) → IsLoaded other → other ≡ m

  -- the bytes are not loaded
  abbrev pub AreNotLoaded : Type 0
  AreNotLoaded = (m : Contents) → IsLoaded m → ⊥

  -- but for want of memory, the bytes are not loaded
  abbrev pub HasNoLoad : ModuleFault → Type 0
  HasNoLoad fault = (fault ≡ NoMemory) ⊎ AreNotLoaded
