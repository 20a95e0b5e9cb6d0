-- Level runs: variants found level by level, each a child of one of the level before, none covered by an earlier one.
-- S. Escobar, R. Sasse and J. Meseguer, Folding variant narrowing and optimal variant termination, 2012.
use Rattle.std.specs.Prelude.{◌≡◌, ◌≢◌, ◌≤◌, ◌⊎◌, ◌+◌, ◌↔◌, ℕ, true, List, [], ◌∷◌, ◌++◌, map, AllPairs, Contains}
use Rattle.fvn_terms.specs.declared.plain.Var.{Var}
use Rattle.fvn_terms.specs.Term.{var}
use Rattle.fvn_terms.specs.Substitution.{Substitution, apply}
use Rattle.fvn_terms.specs.Unifiers.{Problem}
use Rattle.fvn_terms.specs.Rewriting.{ListSequence}
use Rattle.fvn_terms.specs.Variants.{OccursInSome}
use Rattle.fvn_forms.specs.Flat.{FlatTerm, plain}
use Rattle.fvn_flat.specs.Drawn.{Renaming}
use Rattle.fvn_flat.specs.Solving.{substitution}
use Rattle.fvn_flat.specs.Successors.{IsRenaming}
use Rattle.fvn_cover.specs.declared.variant.Variant.{Variant}
use Rattle.fvn_cover.specs.Covering.{CoversVariant}
use Rattle.fvn_exploring.specs.declared.ends.Deep.{Deep}
use Rattle.fvn_exploring.specs.Setting.{Setting}
use Rattle.fvn_exploring.specs.Children.{IsMember, IsChild}

-- the list has the variables of the terms, each once
pub record AreVariablesOf (start : List FlatTerm) (vars : List Var) : Type 0 where
  pub all : (x : Var) → Contains vars x ↔ OccursInSome x (map plain start)
  pub once : AllPairs (λ x y. x ≢ y) vars

-- the normal forms of the terms with all variables renamed to new ones
pub record IsStart (g : Setting) (start : List FlatTerm) (v : Variant) : Type 0 where
  pub vars : AreVariablesOf start v.vars
  pub by : Renaming
  pub renames : IsRenaming (Contains v.vars) by
  pub fresh : (x : Var) → Contains v.vars x → (by x).fresh ≡ true
  pub renamed : (x : Var) → Contains v.vars x → substitution v.subst x ≡ var (by x)
  pub steps : ℕ
  pub reached : ListSequence g.declarations g.equations steps
      (map (apply (substitution v.subst)) (map plain start)) (map plain v.terms)
  pub member : IsMember g v

-- one of the earlier members is one level above, and this one is a child of it
pub record HasParent (g : Setting) (drawn : Problem → Substitution → Type 0) (before : List Deep)
    (m : Deep) : Type 0 where
  pub parent : Deep
  pub listed : Contains before parent
  pub above : parent.depth + 1 ≡ m.depth
  pub child : IsChild g drawn parent.variant m.variant

-- the earlier member does not cover the later one; nor the later the earlier where they are of one level
abbrev pub AreFolded : Setting → Deep → Deep → Type 0
AreFolded g a b = (CoversVariant g.declarations a.variant b.variant → ⊥)
    × (a.depth ≡ b.depth → CoversVariant g.declarations b.variant a.variant → ⊥)

-- The first member, if there is one, is the start; each later one is a child of an earlier one of the level above;
-- levels never fall; and no member is covered by an earlier one or by another of its level.
pub record IsLevelRun (g : Setting) (drawn : Problem → Substitution → Type 0) (start : List FlatTerm)
    (kept : List Deep) : Type 0 where
  pub first : (m : Deep) (rest : List Deep) → kept ≡ m ∷ rest → (m.depth ≡ 0) × IsStart g start m.variant
  pub parents : (before : List Deep) (m : Deep) (after : List Deep) → kept ≡ before ++ m ∷ after
      → (before ≡ []) ⊎ HasParent g drawn before m
  pub sorted : AllPairs (λ a b. a.depth ≤ b.depth) kept
  pub folded : AllPairs (AreFolded g) kept
