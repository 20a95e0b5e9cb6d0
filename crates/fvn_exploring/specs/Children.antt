-- Children of a variant: drawn successors, brought to normal form.
-- S. Escobar, R. Sasse and J. Meseguer, Folding variant narrowing and optimal variant termination, 2012.
use Rattle.std.specs.Prelude.{◌≡◌, ◌<◌, ◌⊎◌, ℕ, true, map, All, Any, Contains}
use Rattle.fvn_base.specs.declared.limits.TheConstants.{EXPANDED_FRESH}
use Rattle.fvn_terms.specs.declared.plain.Var.{Var}
use Rattle.fvn_terms.specs.Term.{var}
use Rattle.fvn_terms.specs.Substitution.{Substitution, apply, Occurs}
use Rattle.fvn_terms.specs.Equality.{BEqual}
use Rattle.fvn_terms.specs.Unifiers.{Problem}
use Rattle.fvn_terms.specs.Rewriting.{IsIrreducible, IsIrreducibleList, ListSequence}
use Rattle.fvn_forms.specs.Flat.{plain}
use Rattle.fvn_flat.specs.Drawn.{OccursInValues}
use Rattle.fvn_flat.specs.Solving.{substitution}
use Rattle.fvn_flat.specs.Successors.{Narrowed, IsDrawnSuccessor}
use Rattle.fvn_cover.specs.declared.variant.Variant.{Variant}
use Rattle.fvn_cover.specs.Covering.{AreAlike, IsFlatVariant}
use Rattle.fvn_exploring.specs.Setting.{Setting}

-- the terms of a variant, and what it makes of variables
abbrev pub narrowed : Variant → Narrowed
narrowed v = record { terms = v.terms; values = substitution v.subst }

-- each variable of a term occurs in the value of one of the variables
abbrev pub HoldsVariables : Variant → Type 0
HoldsVariables v = (y : Var) → Any (λ t. Occurs y (plain t)) v.terms → OccursInValues v.vars (substitution v.subst) y

-- the new variables of terms and values have numbers below this
abbrev pub IsNumberedBelow : ℕ → Variant → Type 0
IsNumberedBelow most v = (y : Var)
    → Any (λ t. Occurs y (plain t)) v.terms ⊎ OccursInValues v.vars (substitution v.subst) y
    → y.fresh ≡ true → y.name < most

-- What every member of an exploration keeps: it is flat, holds its variables and binds no others, and has irreducible
-- terms and values; the fixed terms stay irreducible.
pub record IsMember (g : Setting) (v : Variant) : Type 0 where
  pub flat : IsFlatVariant g.declarations v
  pub holds : HoldsVariables v
  pub others : (x : Var) → (Contains v.vars x → ⊥) → substitution v.subst x ≡ var x
  pub numbers : IsNumberedBelow EXPANDED_FRESH v
  pub terms : IsIrreducibleList g.declarations g.equations (map plain v.terms)
  pub values : (x : Var) → Contains v.vars x → IsIrreducible g.declarations g.equations (substitution v.subst x)
  pub stay : All (λ t. IsIrreducible g.declarations g.equations (apply (substitution v.subst) t)) g.fixed

-- c is a drawn successor of v brought to normal form
pub record IsChild (g : Setting) (drawn : Problem → Substitution → Type 0) (v c : Variant) : Type 0 where
  pub successor : Narrowed
  pub drawn_from : IsDrawnSuccessor g.declarations v.vars g.equations drawn (narrowed v) successor
  pub steps : ℕ
  pub reached : ListSequence g.declarations g.equations steps (map plain successor.terms) (map plain c.terms)
  pub same : (x : Var) → Contains v.vars x → BEqual g.declarations (substitution c.subst x) (successor.values x)
  pub alike : AreAlike v c
  pub member : IsMember g c
