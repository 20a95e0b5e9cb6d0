-- What is known of a turn, and of a unifier that is given in it.
use Rattle.std.proofs.Common.{◌⊎◌, ◌≤◌, ℕ, [], ◌∷◌}
use Rattle.fvn_base.specs.declared.limits.TheConstants.{NEXT_FRESH}
use Rattle.fvn_terms.specs.declared.plain.Var.{Var}
use Rattle.fvn_terms.specs.Substitution.{Substitution, Occurs}
use Rattle.fvn_terms.specs.Unifiers.{Problem, IsUnifier}
use Rattle.fvn_forms.specs.Flat.{FlatTerm, plain}
use Rattle.fvn_flat.specs.Bindings.{Bindings, BindingsFit}
use Rattle.fvn_flat.specs.Fits.{Fits}
use Rattle.fvn_flat.specs.Rules.{IsRuleOf}
use Rattle.fvn_flat.specs.Solving.{substitution, Binds, IsNumbered}
use Rattle.fvn_cover.specs.declared.variant.Variant.{Variant}
use Rattle.fvn_rewrite.specs.Usable.{Rewriting, equations_by}
use Rattle.fvn_rewrite_rules.specs.Given.{HasOldVariables}
use Rattle.fvn_narrow.specs.inner.Turns.{Turn, put_in, IsMeetingAt}

-- the problem of a part and a left side
abbrev pub problem_at : FlatTerm → FlatTerm → Problem
problem_at at left = (plain at, plain left) ∷ []

-- a turn with a rule of the equations, whose variables are old; what is met fits
pub record IsFitTurn (r : Rewriting) (v : Variant) (at : FlatTerm) (turn : Turn) : Type 0 where
  pub turn_is : IsMeetingAt r v at turn
  pub rule : IsRuleOf r.signature (equations_by r) turn.rule.left turn.rule.right
  pub old : HasOldVariables turn.rule
  pub whole_fits : Fits r.signature turn_is.whole
  pub at_fits : Fits r.signature at
  pub left_fits : Fits r.signature turn.rule.left
  pub right_fits : Fits r.signature turn.rule.right
  pub given_fits : Fits r.signature (put_in r.signature turn)
  pub given_occurs : (x : Var) → Occurs x (plain (put_in r.signature turn)) → Occurs x (plain turn.rule.right) ⊎ Occurs x (plain turn_is.whole)
  pub within : (x : Var) → Occurs x (plain at) → Occurs x (plain turn_is.whole)

-- what a solver promises of a unifier of the part and the left side
pub record IsGivenIn (r : Rewriting) (drawn : Problem → Substitution → Type 0) (next : ℕ) (problem : Problem) (s : Bindings) : Type 0 where
  pub unifies : IsUnifier r.signature problem (substitution s)
  pub is_drawn : drawn problem (substitution s)
  pub binds : Binds problem s
  pub fits : BindingsFit r.signature s
  pub after : ℕ
  pub numbered : IsNumbered next after problem s
  pub bounded : after ≤ NEXT_FRESH
