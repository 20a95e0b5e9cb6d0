-- How instances of terms and values lift into children.
-- J.-M. Hullot, Canonical forms and unification, 1980; J. Meseguer and P. Thati, Symbolic reachability analysis using
-- narrowing, 2007.
use Rattle.std.specs.Prelude.{◌≡◌, ◌⊎◌, ℕ, suc, List, map, All, Any, Contains}
use Rattle.std.specs.List.{AllZip}
use Rattle.fvn_terms.specs.declared.plain.Var.{Var}
use Rattle.fvn_terms.specs.declared.declarations.Declarations.{Declarations}
use Rattle.fvn_terms.specs.Term.{Term, var}
use Rattle.fvn_terms.specs.Substitution.{Substitution, apply}
use Rattle.fvn_terms.specs.Equality.{BEqual}
use Rattle.fvn_terms.specs.Sorts.{IsWellSorted}
use Rattle.fvn_terms.specs.Unifiers.{Problem}
use Rattle.fvn_terms.specs.Theory.{Equations}
use Rattle.fvn_terms.specs.Rewriting.{IsReducible, IsIrreducible, ListRewrites, ListSequence}
use Rattle.fvn_forms.specs.Flat.{FlatTerm, plain}
use Rattle.fvn_flat.specs.Solving.{substitution}
use Rattle.fvn_flat.specs.Successors.{Narrowed, OccursIn}
use Rattle.fvn_cover.specs.declared.variant.Variant.{Variant}
use Rattle.fvn_exploring.specs.Setting.{Setting}
use Rattle.fvn_exploring.specs.Liftings.{instance_of, value_under}
use Rattle.fvn_lifting.specs.Meetings.{Meet}

-- the terms under a substitution
abbrev pub instances : Substitution → Narrowed → List Term
instances s v = map (apply s) (map plain v.terms)

-- any substitution may be drawn
abbrev pub may_be_any : Problem → Substitution → Type 0
may_be_any problem s = Unit {0}

module _ (d : Declarations) (vars : List Var) where
  -- the instance of v by s and that of w by c are equal modulo the axioms, and so are the values of these variables;
  -- where c has another value than s somewhere, it leaves a variable as it is
  pub record HaveOneInstance (v w : Narrowed) (s c : Substitution) : Type 0 where
    pub well_sorted : IsWellSorted d c
    pub terms : AllZip (BEqual d) (instances s v) (instances c w)
    pub values : (x : Var) → Contains vars x → BEqual d (apply s (v.values x)) (apply c (w.values x))
    pub origin : (y : Var) → ((x : Var) × (OccursIn d vars v x × (c y ≡ s x))) ⊎ (c y ≡ var y)

  -- one step leads from the instance of v by s to w, and the values of these variables are the same
  pub record IsStepUnder (equations : Equations) (v w : Narrowed) (s : Substitution) : Type 0 where
    pub step : ListRewrites d equations (instances s v) (map plain w.terms)
    pub same : (x : Var) → Contains vars x → BEqual d (apply s (v.values x)) (w.values x)

module _ (g : Setting) (vars : List Var) where
  -- a well-sorted substitution that keeps the values of these variables irreducible
  pub record KeepsIrreducibleFrom (from : Narrowed) (s : Substitution) : Type 0 where
    pub well_sorted : IsWellSorted g.declarations s
    pub values : (x : Var) → Contains vars x → IsIrreducible g.declarations g.equations (apply s (from.values x))
    pub stay : All (λ t. IsIrreducible g.declarations g.equations (apply s (apply from.values t))) g.fixed

  -- at least one step leads from the instance by s to one of c, which has the same values
  pub record IsLiftedFrom (from : Narrowed) (s : Substitution) (c : Variant) : Type 0 where
    pub by : Substitution
    pub well_sorted : IsWellSorted g.declarations by
    pub steps : ℕ
    pub sequence : ListSequence g.declarations g.equations (suc steps) (instances s from) (instance_of by c)
    pub same : (x : Var) → Contains vars x → BEqual g.declarations (apply s (from.values x)) (value_under by c x)

  -- each instance that meets the left side at this form lifts into a child
  abbrev pub LiftsAt : Narrowed → FlatTerm → FlatTerm → List Variant → Type 0
  LiftsAt from at left children =
      (s c : Substitution) → KeepsIrreducibleFrom from s → Meet g.declarations (plain at) (plain left) s c
      → Any (IsLiftedFrom from s) children

  -- c is the successor with its terms brought further, with the same values
  pub record IsBroughtTo (to : Narrowed) (c : Variant) : Type 0 where
    pub steps : ℕ
    pub reached : ListSequence g.declarations g.equations steps (map plain to.terms) (map plain c.terms)
    pub same : (x : Var) → Contains vars x → BEqual g.declarations (substitution c.subst x) (to.values x)

  -- the value of some variable is reducible, or some fixed term under the values
  abbrev pub HasReducible : Narrowed → Type 0
  HasReducible to = Any (λ x. IsReducible g.declarations g.equations (to.values x)) vars
      ⊎ Any (λ t. IsReducible g.declarations g.equations (apply to.values t)) g.fixed

  -- a step under the unifier leads to a successor that became a child, or that has something reducible
  pub record IsTurned (from : Narrowed) (children : List Variant) (unifier : Substitution) : Type 0 where
    pub to : Narrowed
    pub step : IsStepUnder g.declarations vars g.equations from to unifier
    pub taken : Any (IsBroughtTo to) children ⊎ HasReducible to
