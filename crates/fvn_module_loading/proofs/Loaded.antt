-- A text is loaded as one module at most, and has one first fault at most.
use Rattle.std.proofs.Common.{◌≡◌, ◌⊎◌, ℕ, List, Option, Some, None, Result, Ok, Err, IfOk, IfErr, inl, inr, sym, ap, ◌∙◌, subst}
use Rattle.std.specs.Prelude.{MatchOption}
use Rattle.fvn_module.specs.declared.fault.ModuleFault.{ModuleFault}
use Rattle.fvn_module.specs.declared.fault.ModuleFault.TheVariants.{NoMemory}
use Rattle.fvn_module.specs.Contents.{Contents}
use Rattle.fvn_module.specs.ModuleText.{IsModule, IsOnlyModule, HasNoModule}
use Rattle.fvn_module.specs.Refusals.{Refuses}
use Rattle.fvn_module.specs.Laws.{ModulesAreDetermined, RefusalsAreDetermined, RefusedTextsDeclareNothing}
use Rattle.fvn_cohere.specs.declared.faults.LeftFault.{LeftFault}
use Rattle.fvn_cohere.specs.LeftFaults.{IsFirstLeftFault}
use Rattle.fvn_theory.specs.Equations.{equations_of}
use Rattle.fvn_module_loading.specs.Loading.{fault_of_left, HasHarmlessSides, HasLeftFault, IsLoaded, IsLoadFault, IsOnlyLoaded, HasNoLoad}
use Rattle.fvn_module_loading.proofs.LeftFaults.{first_harmful, first_once}

-- what is wrong with a left side of a module

abbrev Firsts : Contents → LeftFault → Type 0
Firsts m left = IsFirstLeftFault m.signature (equations_of m.equations) left

side-once : (m k : Contents) → m ≡ k → (f g : ModuleFault) → HasLeftFault m f → HasLeftFault k g → f ≡ g
side-once m k e f g a b =
    let one : a.left ≡ b.left = first_once k.signature (equations_of k.equations) a.left b.left (subst (λ n. Firsts n a.left) e a.first) b.first in
    a.fault_is ∙ ap fault_of_left one ∙ sym b.fault_is

side-harmful : (m k : Contents) → k ≡ m → (f : ModuleFault) → HasLeftFault m f → HasHarmlessSides k → ⊥
side-harmful m k e f a h = first_harmful m.signature (equations_of m.equations) a.left a.first (subst HasHarmlessSides e h)

-- the first left side at fault, where there is one

abbrev Found : Contents → Option LeftFault → Type 0
Found m found = MatchOption found (HasHarmlessSides m) (Firsts m)

pub no_left : (m : Contents) (found : Option LeftFault) → found ≡ None → Found m found → HasHarmlessSides m
no_left m found e h = subst (Found m) e h

pub told_left : (m : Contents) (found : Option LeftFault) (left : LeftFault) → found ≡ Some left → Found m found → (f : ModuleFault) → f ≡ fault_of_left left → HasLeftFault m f
told_left m found left e h f is = record { left = left; first = subst (Found m) e h; fault_is = is }

-- what is read, and then judged

module _ (bytes : List ℕ) where
  pub read_fault : (f : ModuleFault) → Refuses bytes f → IsLoadFault bytes f
  read_fault f h = inl h

  pub not_read : (f : ModuleFault) → HasNoModule bytes f → HasNoLoad bytes f
  not_read f (inl e) = inl e
  not_read f (inr none) = inr (λ m h. none m h.is_module)

  module _ (m : Contents) where
    -- the same module, with harmless left sides
    abbrev IsJudged : Contents → Type 0
    IsJudged k = (k ≡ m) × HasHarmlessSides m

    -- want of memory, or the fault of its first left side at fault
    abbrev IsFaultOf : ModuleFault → Type 0
    IsFaultOf f = (f ≡ NoMemory) ⊎ HasLeftFault m f

    pub judged_ok : IsModule bytes m → (r : Result Contents ModuleFault) → IfOk r IsJudged → IfOk r (IsLoaded bytes)
    judged_ok h (Ok k) j = record { is_module = subst (IsModule bytes) (sym j.0) h; harmless = subst HasHarmlessSides (sym j.0) j.1 }
    judged_ok h (Err f) j = tt

    pub judged_alone : IsOnlyModule bytes m → (r : Result Contents ModuleFault) → IfOk r IsJudged → IfOk r (IsOnlyLoaded bytes)
    judged_alone only (Ok k) j = λ other h. only other h.is_module ∙ sym j.0
    judged_alone only (Err f) j = tt

    pub judged_fault : IsModule bytes m → (r : Result Contents ModuleFault) → IfErr r IsFaultOf → IfErr r (IsLoadFault bytes)
    judged_fault h (Ok k) j = tt
    judged_fault h (Err f) (inl e) = inl (subst (Refuses bytes) (sym e) tt)
    judged_fault h (Err f) (inr w) = inr (record { contents = m; is_module = h; left_fault = w })

    pub judged_none : IsOnlyModule bytes m → (r : Result Contents ModuleFault) → IfErr r IsFaultOf → IfErr r (HasNoLoad bytes)
    judged_none only (Ok k) j = tt
    judged_none only (Err f) (inl e) = inl e
    judged_none only (Err f) (inr w) = inr (λ k h. side-harmful m k (only k h.is_module) f w h.harmless)

-- the laws

module _ (modules : ModulesAreDetermined) where
  pub loaded-once : (bytes : List ℕ) (m k : Contents) → IsLoaded bytes m → IsLoaded bytes k → m ≡ k
  loaded-once bytes m k a b = modules bytes m k a.is_module b.is_module

  module _ (nothing : RefusedTextsDeclareNothing) where
    pub faulty-apart : (bytes : List ℕ) (f : ModuleFault) (m : Contents) → IsLoadFault bytes f → IsLoaded bytes m → f ≡ NoMemory
    faulty-apart bytes f m (inl a) h = nothing bytes f m a h.is_module
    faulty-apart bytes f m (inr a) h = absurd (side-harmful a.contents m (modules bytes m a.contents h.is_module a.is_module) f a.left_fault h.harmless)

    pub faults-once : RefusalsAreDetermined → (bytes : List ℕ) (f g : ModuleFault) → IsLoadFault bytes f → IsLoadFault bytes g → (f ≡ NoMemory) ⊎ ((g ≡ NoMemory) ⊎ (f ≡ g))
    faults-once refusals bytes f g (inl a) (inl b) = refusals bytes f g a b
    faults-once refusals bytes f g (inl a) (inr b) = inl (nothing bytes f b.contents a b.is_module)
    faults-once refusals bytes f g (inr a) (inl b) = inr (inl (nothing bytes g a.contents b a.is_module))
    faults-once refusals bytes f g (inr a) (inr b) = inr (inr (side-once a.contents b.contents (modules bytes a.contents b.contents a.is_module b.is_module) f g a.left_fault b.left_fault))
