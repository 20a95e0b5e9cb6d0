-- Why a search stops before it is done: each cause is shown by a problem that was given to the solver, or by a term that
-- was rewritten.
use Rattle.std.specs.Prelude.{◌≡◌, ◌≢◌, ◌<◌, ◌⊎◌, ℕ, List, [], ◌∷◌, length, map, All, Contains}
use Rattle.fvn_terms.specs.declared.plain.Var.{Var}
use Rattle.fvn_terms.specs.declared.plain.OpId.{OpId}
use Rattle.fvn_terms.specs.Substitution.{Substitution, Occurs}
use Rattle.fvn_terms.specs.Unifiers.{Problem, IsUnifier}
use Rattle.fvn_terms.specs.Rewriting.{IsReducible}
use Rattle.fvn_forms.specs.Flat.{FlatTerm, fvar, plain, symbols}
use Rattle.fvn_forms.specs.Canon.{canon}
use Rattle.fvn_lindio.specs.declared.system.System.{System}
use Rattle.fvn_flat.specs.Bindings.{Bindings}
use Rattle.fvn_flat.specs.Drawn.{Renaming}
use Rattle.fvn_flat.specs.OneAnswer.{IsApartFor}
use Rattle.fvn_flat.specs.Fits.{Fits}
use Rattle.fvn_flat.specs.Problems.{flat_pairs, variables_of}
use Rattle.fvn_flat.specs.Rules.{IsRuleOf}
use Rattle.fvn_flat.specs.FlatPlaces.{IsAtPlace, Beside, IsPartOf}
use Rattle.fvn_flat.specs.Solving.{substitution, symbols_of_pairs, problem_of, IsBasisCause}
use Rattle.fvn_flat.specs.Solving.{IsTooLarge as UnfoldsTooLarge}
use Rattle.fvn_flat.specs.Successors.{Narrowed, IsRenaming, IsRenamed, renamed_form, renamed_problem, IsDrawnSuccessor}
use Rattle.fvn_flat.specs.declared.solver.Pairs.{Pairs}
use Rattle.fvn_flat.specs.declared.solver.SizeCause.{SizeCause}
use Rattle.fvn_flat.specs.declared.solver.SizeCause.TheVariants.{Problem as OfProblem, Binding, Term as OfTerm}
use Rattle.fvn_rewrite_laws.specs.Normalised.{IsReached}
use Rattle.fvn_cover.specs.declared.variant.Variant.{Variant}
use Rattle.fvn_exploring.specs.Setting.{Setting}
use Rattle.fvn_exploring.specs.Children.{narrowed}

-- Causes in a setting, where `Posed` says which problems are given to the solver, and `Told` which terms are rewritten.
module _ (g : Setting) (drawn : Problem → Substitution → Type 0)
    (Posed : Pairs → Type 0) (Told : FlatTerm → Type 0) where
  -- as many steps as are allowed lead from one of the terms to a reducible one
  pub record IsStepsCause (start end : FlatTerm) : Type 0 where
    pub told : Told start
    pub fits : Fits g.declarations start
    pub reached : IsReached g.declarations g.equations g.bounds.steps start end
    pub reducible : IsReducible g.declarations g.equations (plain end)

  -- a sequence from one of the terms leads to one with too many symbols, identities not counted
  pub record IsLargeTerm (end : FlatTerm) : Type 0 where
    pub start : FlatTerm
    pub told : Told start
    pub steps : ℕ
    pub reached : IsReached g.declarations g.equations steps start end
    pub large : g.bounds.size < symbols end

  -- a solved list of one of the problems unfolds to a value with too many symbols
  pub record IsLargeBinding (bindings : Bindings) : Type 0 where
    pub given : Pairs
    pub posed : Posed given
    pub large : UnfoldsTooLarge g.declarations given g.bounds.size bindings

  -- one of the problems, what a solved list unfolds to, or a term has too many symbols
  abbrev pub IsSizeCause : SizeCause → Type 0
  IsSizeCause (OfProblem given) = Posed given × (g.bounds.size < symbols_of_pairs given.pairs)
  IsSizeCause (Binding list) = IsLargeBinding list.bindings
  IsSizeCause (OfTerm end) = IsLargeTerm end

  -- the system is refused, and is f's sum system of one of the problems under a partition
  pub record IsSystemCause (f : OpId) (system : System) : Type 0 where
    pub given : Pairs
    pub posed : Posed given
    pub basis : IsBasisCause g.declarations given f system

  -- one of the problems has so many drawn unifiers, none an instance of another
  pub record IsUnifiersCause (given : Pairs) (list : List Bindings) : Type 0 where
    pub posed : Posed given
    pub many : length list ≡ g.unifiers
    pub unifiers : All (λ s. IsUnifier g.declarations (problem_of given) (substitution s)) list
    pub are_drawn : All (λ s. drawn (problem_of given) (substitution s)) list
    pub apart : IsApartFor g.declarations (problem_of given) (map substitution list)

-- a term of a drawn successor, or the flat form of what it makes of a variable
pub record IsOfSuccessor (g : Setting) (drawn : Problem → Substitution → Type 0) (v : Variant)
    (t : FlatTerm) : Type 0 where
  pub successor : Narrowed
  pub drawn_from : IsDrawnSuccessor g.declarations v.vars g.equations drawn (narrowed v) successor
  pub is : Contains successor.terms t
      ⊎ ((x : Var) × Contains v.vars x × (t ≡ canon g.declarations (successor.values x)))

-- a part of one of the terms that is no variable: a form at a place, or some summands of it
pub record IsPartOfSome (terms : List FlatTerm) (at : FlatTerm) : Type 0 where
  pub term : FlatTerm
  pub listed : Contains terms term
  pub whole : FlatTerm
  pub at_place : IsAtPlace whole term
  pub beside : Beside
  pub part : IsPartOf whole at beside
  pub no_variable : (x : Var) → at ≢ fvar x

-- The problem asks for unifiers of a part of one of the terms and the left side of a rule, whose variables do not occur
-- in the part, up to a renaming of the variables of both.
pub record IsRuleProblem (g : Setting) (terms : List FlatTerm) (given : Pairs) : Type 0 where
  pub at : FlatTerm
  pub part : IsPartOfSome terms at
  pub l : FlatTerm
  pub r : FlatTerm
  pub rule : IsRuleOf g.declarations g.equations l r
  pub by : Renaming
  pub renames : IsRenaming (λ x. Occurs x (plain l)) by
  pub apart : (x : Var) → Occurs x (plain l) → Occurs (by x) (plain at) → ⊥
  pub problem : Problem
  pub is_problem : problem ≡ (plain at, plain (renamed_form g.declarations by l)) ∷ []
  pub before : Renaming
  pub renames_problem : IsRenaming (Contains (variables_of problem)) before
  pub is : given.pairs ≡ flat_pairs g.declarations (renamed_problem before problem)

-- the same of the variant's terms, whose variables may be renamed before
pub record IsNarrowingProblem (g : Setting) (v : Variant) (given : Pairs) : Type 0 where
  pub from : Narrowed
  pub renamed_before : IsRenamed g.declarations v.vars (narrowed v) from
  pub problem : IsRuleProblem g from.terms given
