-- Steps of flat forms, and what a search for a normal form ends with.
-- G. E. Peterson and M. E. Stickel, Complete sets of reductions for some equational theories, 1981.
use Rattle.std.specs.Prelude.{◌≡◌, ◌≤◌, ◌<◌, ◌-◌, ◌^◌, ℕ, min}
use Rattle.fvn_terms.specs.declared.declarations.Declarations.{Declarations}
use Rattle.fvn_terms.specs.Theory.{Equations}
use Rattle.fvn_terms.specs.Rewriting.{Rewrites, TermSequence, IsReducible, IsIrreducible}
use Rattle.fvn_theory.specs.declared.bounds.Bounds.{Bounds}
use Rattle.fvn_forms.specs.Flat.{FlatTerm, plain, symbols}
use Rattle.fvn_flat.specs.Fits.{Fits}
use Rattle.fvn_flat.specs.declared.solver.Normal.{Normal}
use Rattle.fvn_flat.specs.declared.solver.Normal.TheVariants.{Form, Steps, Size}

-- the symbols of a form as they are counted, up to the greatest number
abbrev pub counted : FlatTerm → ℕ
counted t = min (symbols t) (2 ^ 64 - 1)

module _ (d : Declarations) (equations : Equations) where
  -- one step leads from the term of the first form to that of the second
  abbrev pub StepsTo : FlatTerm → FlatTerm → Type 0
  StepsTo t u = Rewrites d equations (plain t) (plain u)

  -- no step leads on from the term of the form
  abbrev pub IsNormalForm : FlatTerm → Type 0
  IsNormalForm t = IsIrreducible d equations (plain t)

  -- a sequence of so many steps leads from the term of the first form to that of the second, which fits
  pub record IsReached (count : ℕ) (t u : FlatTerm) : Type 0 where
    pub sequence : TermSequence d equations count (plain t) (plain u)
    pub fits : Fits d u

  -- what is said of a start, with limits on steps and on symbols
  module _ (t : FlatTerm) (bounds : Bounds) where
    -- at most so many steps lead to u
    pub record IsReachedWithin (u : FlatTerm) : Type 0 where
      pub count : ℕ
      pub within : count ≤ bounds.steps
      pub reached : IsReached count t u

    -- the steps lead to an irreducible form, which is not too large
    pub record IsForm (u : FlatTerm) : Type 0 where
      pub reached : IsReachedWithin u
      pub irreducible : IsNormalForm u
      pub small : counted u ≤ bounds.size

    -- all steps that are allowed lead from the start to a form that is reducible and not too large
    pub record IsUnfinished (start u : FlatTerm) : Type 0 where
      pub is : start ≡ t
      pub reached : IsReached bounds.steps t u
      pub reducible : IsReducible d equations (plain u)
      pub small : counted u ≤ bounds.size

    -- the steps lead to a form that is too large
    pub record IsTooLarge (u : FlatTerm) : Type 0 where
      pub reached : IsReachedWithin u
      pub large : bounds.size < counted u

    -- what a search for a normal form may end with
    abbrev pub IsNormalised : Normal → Type 0
    IsNormalised (Form u) = IsForm u
    IsNormalised (Steps start u) = IsUnfinished start u
    IsNormalised (Size u) = IsTooLarge u
