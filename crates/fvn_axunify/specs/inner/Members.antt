-- Lists of unifiers of which none is an instance of another.
use Rattle.std.specs.Prelude.{◌≡◌, ◌+◌, ◌≤◌, ◌<◌, ℕ, List, [], length, All, Any}
use Rattle.fvn_base.specs.declared.limits.TheConstants.{NEXT_FRESH}
use Rattle.fvn_terms.specs.declared.plain.Var.{Var}
use Rattle.fvn_terms.specs.declared.declarations.Declarations.{Declarations}
use Rattle.fvn_terms.specs.CompleteSets.{IsApart}
use Rattle.fvn_terms.specs.Substitution.{Substitution}
use Rattle.fvn_terms.specs.Unifiers.{IsUnifier, IsInstance}
use Rattle.fvn_flat.specs.Bindings.{Bindings, value, BindsOnce, BindingsFit}
use Rattle.fvn_flat.specs.Problems.{variables_of}
use Rattle.fvn_flat.specs.Solving.{substitution, problem_of, Binds, IsNumbered}
use Rattle.fvn_flat.specs.Drawn.{IsDrawn}
use Rattle.fvn_flat.specs.declared.solver.Pairs.{Pairs}
use Rattle.fvn_combine.specs.CombineChoicesCovering.{CoversOnKinds}
use Rattle.fvn_cover.specs.Covering.{CoversVariant}
use Rattle.fvn_cover.specs.declared.variant.Variant.{Variant}

module _ (d : Declarations) (given : Pairs) where
  -- what is promised of each unifier, but that it binds each variable once
  pub record IsMember (first : ℕ) (s : Bindings) : Type 0 where
    pub unifier : IsUnifier d (problem_of given) (substitution s)
    pub drawn : IsDrawn d (problem_of given) (substitution s)
    pub binds : Binds (problem_of given) s
    pub fit : BindingsFit d s
    pub numbered : IsNumbered first NEXT_FRESH (problem_of given) s

  module _ (vars : List Var) where
    -- a unifier as a variant without terms
    pub record IsKept (first : ℕ) (v : Variant) : Type 0 where
      pub vars_are : v.vars ≡ vars
      pub no_terms : v.terms ≡ []
      pub once : BindsOnce v.subst
      pub member : IsMember first v.subst

    -- unifiers, none an instance of another
    pub record AreKept (first : ℕ) (list : List Variant) : Type 0 where
      pub members : All (IsKept first) list
      pub apart : IsApart (CoversVariant d) list

    -- u is an instance of one of them
    abbrev pub IsReached : List Variant → Substitution → Type 0
    IsReached list u = Any (λ v. IsInstance d vars u (substitution v.subst)) list

    -- what was an instance of one stays so
    abbrev pub Grows : List Variant → List Variant → Type 0
    Grows kept after = (u : Substitution) → IsReached kept u → IsReached after u

    -- every instance of s is one of a member
    abbrev pub HasInstancesOf : Bindings → List Variant → Type 0
    HasInstancesOf s after = (u : Substitution) → IsInstance d vars u (substitution s) → IsReached after u

    -- the list with one more unifier
    pub record IsWith (first : ℕ) (kept : List Variant) (s : Bindings) (after : List Variant) : Type 0 where
      pub are : AreKept first after
      pub grows : Grows kept after
      pub reached : HasInstancesOf s after
      pub more : length after ≤ length kept + 1

    -- the list with more unifiers; each of them where there are fewer than the limit
    pub record IsWithEach (first most : ℕ) (kept : List Variant) (more : List Bindings) (after : List Variant) : Type 0 where
      pub are : AreKept first after
      pub grows : Grows kept after
      pub few : length after ≤ most
      pub each : length after < most → All (λ s. HasInstancesOf s after) more

    -- the list with what a unifier on kinds covers, where there are fewer than the limit
    pub record IsWithAll (first most : ℕ) (kept : List Variant) (g : Bindings) (after : List Variant) : Type 0 where
      pub are : AreKept first after
      pub grows : Grows kept after
      pub few : length after ≤ most
      pub covered : length after < most → (u : Substitution) → IsUnifier d (problem_of given) u →
          CoversOnKinds d (variables_of (problem_of given)) (value g) u → IsReached after u
