-- What is asked where terms are to stay irreducible.
use Rattle.std.specs.Prelude.{◌≡◌, ◌≤◌, List, length, All}
use Rattle.fvn_terms.specs.declared.plain.Var.{Var}
use Rattle.fvn_terms.specs.declared.declarations.Declarations.{Declarations}
use Rattle.fvn_terms.specs.Substitution.{Occurs}
use Rattle.fvn_terms.specs.Rewriting.{IsIrreducible}
use Rattle.fvn_forms.specs.Flat.{FlatTerm, fvar, plain}
use Rattle.fvn_flat.specs.Fits.{Fits}
use Rattle.fvn_flat.specs.Problems.{plain_pairs, IsProblem}
use Rattle.fvn_flat.specs.Solving.{FlatPairs}
use Rattle.fvn_exploring.specs.Setting.{Setting}
use Rattle.fvn_fold.specs.Starts.{AreFixedFor}

-- pairs of one kind each, which fit
pub record ArePairsIn (d : Declarations) (pairs : FlatPairs) : Type 0 where
  pub kinds : IsProblem d (plain_pairs pairs)
  pub fit : All (λ p. Fits d p.0 × Fits d p.1) pairs

-- the first form is a variable, and the only one of t
abbrev pub IsOver : FlatTerm → FlatTerm → Type 0
IsOver first t = (y : Var) → Occurs y (plain t) → first ≡ fvar y

-- and t is irreducible
pub record IsFixable (g : Setting) (first t : FlatTerm) : Type 0 where
  pub over : IsOver first t
  pub irreducible : IsIrreducible g.declarations g.equations (plain t)

-- some forms are there, and the fixed terms may be so for them
pub record MayBeExplored (g : Setting) (start : List FlatTerm) : Type 0 where
  pub some : 1 ≤ length start
  pub fixed : AreFixedFor g start
