-- Pairs whose sides have one normal form: one renaming of their variables solves them.
use Rattle.std.specs.Prelude.{◌≡◌, List, length, map, All}
use Rattle.fvn_flat.specs.Bindings.{BindingsFit}
use Rattle.fvn_flat.specs.OneAnswer.{IsApartFor}
use Rattle.fvn_flat.specs.Problems.{plain_pairs}
use Rattle.fvn_flat.specs.Solving.{FlatPairs, substitution}
use Rattle.fvn_forms.specs.Flat.{FlatTerm}
use Rattle.fvn_rewrite_laws.specs.Normalised.{IsForm}
use Rattle.fvn_exploring.specs.declared.ends.ExploreEnd.TheVariants.{Complete}
use Rattle.fvn_exploring.specs.Setting.{Setting}
use Rattle.fvn_vunify.specs.declared.solved.SolvedModulo.{SolvedModulo}
use Rattle.fvn_vunify.specs.Sides.{sides_in_turn}
use Rattle.fvn_vunify.specs.Solutions.{IsIrreducibleUnifier, AreAllIrreducibleUnifiers}
use Rattle.fvn_vunify.specs.Solved.{HasSmallValues}

-- within the limits, both are brought to this normal form
pub record HaveOneForm (g : Setting) (t u : FlatTerm) : Type 0 where
  pub form : FlatTerm
  pub left : IsForm g.declarations g.equations t g.bounds form
  pub right : IsForm g.declarations g.equations u g.bounds form

-- what is promised of an answer that needs no exploration of the sides of the pairs
pub record IsSolvedAtOnce (g : Setting) (pairs : FlatPairs) (r : SolvedModulo) : Type 0 where
  -- the sides of each pair have one normal form
  pub alike : All (λ p. HaveOneForm g p.0 p.1) pairs
  -- The one answer is a unifier in the theory with irreducible values, under which the fixed terms stay irreducible; it
  -- fits, and its values are not too large.
  pub one : length r.unifiers ≡ 1
  pub sound : All (λ s. IsIrreducibleUnifier g (plain_pairs pairs) (substitution s)) r.unifiers
  pub fits : All (BindingsFit g.declarations) r.unifiers
  pub small : All (HasSmallValues g (plain_pairs pairs)) r.unifiers
  pub apart : IsApartFor g.declarations (plain_pairs pairs) (map substitution r.unifiers)
  -- Each such unifier is an instance of it, whether or not the equations terminate and are confluent.
  pub complete : AreAllIrreducibleUnifiers g (plain_pairs pairs) (map substitution r.unifiers)
  pub end : r.end ≡ Complete

-- for all pairs that have these sides
abbrev pub IsSolvedAtOnceFor : Setting → List FlatTerm → SolvedModulo → Type 0
IsSolvedAtOnceFor g terms r = (pairs : FlatPairs) → terms ≡ sides_in_turn pairs → IsSolvedAtOnce g pairs r
