-- Where variants are explored: a signature with equations, terms that stay irreducible, and limits.
-- S. Escobar, R. Sasse and J. Meseguer, Folding variant narrowing and optimal variant termination, 2012.
use Rattle.std.specs.Prelude.{ℕ, List}
use Rattle.fvn_terms.specs.declared.declarations.Declarations.{Declarations}
use Rattle.fvn_terms.specs.Term.{Term}
use Rattle.fvn_terms.specs.Theory.{Equations}
use Rattle.fvn_forms.specs.Flat.{FlatTerm}
use Rattle.fvn_flat.specs.declared.solver.Normal.{Normal}
use Rattle.fvn_theory.specs.declared.bounds.Bounds.{Bounds}
use Rattle.fvn_rewrite_laws.specs.Lawful.{AreLawful}
use Rattle.fvn_rewrite_laws.specs.Normalised.{IsNormalised}

-- A signature and equations; terms over the start's variables that are to stay irreducible; how many steps a normal
-- form may take and how many symbols a term may have; and at how many unifiers of a problem the solver stops.
pub record Setting : Type 0 where
  pub declarations : Declarations
  pub equations : Equations
  pub fixed : List Term
  pub bounds : Bounds
  pub unifiers : ℕ

-- the equations keep what an exploration stands on
abbrev pub AreLawfulIn : Setting → Type 0
AreLawfulIn g = AreLawful g.declarations g.equations

-- a normal form of t, or why there is none within the limits
abbrev pub IsRested : Setting → FlatTerm → Normal → Type 0
IsRested g t = IsNormalised g.declarations g.equations t g.bounds
