-- How instances of a variant lift into its children.
-- J.-M. Hullot, Canonical forms and unification, 1980; J. Meseguer and P. Thati, Symbolic reachability analysis using
-- narrowing, 2007.
use Rattle.std.specs.Prelude.{ℕ, suc, List, map, All, Contains}
use Rattle.fvn_terms.specs.declared.plain.Var.{Var}
use Rattle.fvn_terms.specs.Term.{Term}
use Rattle.fvn_terms.specs.Substitution.{Substitution, apply}
use Rattle.fvn_terms.specs.Equality.{BEqual}
use Rattle.fvn_terms.specs.Sorts.{IsWellSorted}
use Rattle.fvn_terms.specs.Rewriting.{IsIrreducible, ListRewrites, ListSequence}
use Rattle.fvn_forms.specs.Flat.{plain}
use Rattle.fvn_flat.specs.Solving.{substitution}
use Rattle.fvn_cover.specs.declared.variant.Variant.{Variant}
use Rattle.fvn_exploring.specs.Setting.{Setting}

-- the terms of a variant under a substitution
abbrev pub instance_of : Substitution → Variant → List Term
instance_of s v = map (apply s) (map plain v.terms)

-- what a variant and then a substitution make of a variable
abbrev pub value_under : Substitution → Variant → Var → Term
value_under s v x = apply s (substitution v.subst x)

-- at least one step leads from the instance of v by s to one of c, which has the same values
pub record IsLifted (g : Setting) (v : Variant) (s : Substitution) (c : Variant) : Type 0 where
  pub by : Substitution
  pub well_sorted : IsWellSorted g.declarations by
  pub steps : ℕ
  pub sequence : ListSequence g.declarations g.equations (suc steps) (instance_of s v) (instance_of by c)
  pub same : (x : Var) → Contains v.vars x → BEqual g.declarations (value_under s v x) (value_under by c x)

-- a well-sorted substitution with irreducible values, under which the fixed terms stay irreducible
pub record KeepsIrreducible (g : Setting) (v : Variant) (s : Substitution) : Type 0 where
  pub well_sorted : IsWellSorted g.declarations s
  pub values : (x : Var) → Contains v.vars x → IsIrreducible g.declarations g.equations (value_under s v x)
  pub stay : All (λ t. IsIrreducible g.declarations g.equations (apply s (apply (substitution v.subst) t))) g.fixed

-- every reducible instance of v with irreducible values lifts into one of these
abbrev pub LiftsInto : Setting → Variant → (Variant → Type 0) → Type 0
LiftsInto g v Into =
    (s : Substitution) → KeepsIrreducible g v s →
    (us : List Term) → ListRewrites g.declarations g.equations (instance_of s v) us →
    (c : Variant) × Into c × IsLifted g v s c
