-- Ways to give sorts are the same for substitutions with the same flat forms of their values.
use Rattle.std.proofs.Common.{◌≡◌, List, subst}
use Rattle.std.specs.Prelude.{Contains}
use Rattle.fvn_terms.specs.declared.plain.Var.{Var}
use Rattle.fvn_terms.specs.declared.plain.SortId.{SortId}
use Rattle.fvn_terms.specs.declared.declarations.Declarations.{Declarations}
use Rattle.fvn_terms.specs.Signature.{AtOrBelow}
use Rattle.fvn_terms.specs.Substitution.{Substitution}
use Rattle.fvn_forms.specs.Canon.{canon}
use Rattle.fvn_forms.specs.LeastSort.{sort_in}
use Rattle.fvn_flat.specs.Drawn.{OccursInValues, IsWay, IsMaximalWay}

-- on the same variables, the values have the same forms and variables
pub record HaveOneForm (d : Declarations) (xs ys : List Var) (s c : Substitution) : Type 0 where
  pub variables : (x : Var) → Contains ys x → Contains xs x
  pub forms : (x : Var) → Contains ys x → canon d (s x) ≡ canon d (c x)
  pub there : (y : Var) → OccursInValues xs s y → OccursInValues ys c y
  pub back : (y : Var) → OccursInValues ys c y → OccursInValues xs s y

module _ (d : Declarations) (xs ys : List Var) (s c : Substitution) where
  way_along : HaveOneForm d xs ys s c → (way : Var → SortId) → IsWay d xs s way → IsWay d ys c way
  way_along h way w = record {
    kinds = λ y o. w.kinds y (h.back y o);
    fits = λ x i. subst (λ t. AtOrBelow d (sort_in d way t) x.sort) (h.forms x i) (w.fits x (h.variables x i));
  }

pub maximal_along : (d : Declarations) (xs ys : List Var) (s c : Substitution) → HaveOneForm d xs ys s c → HaveOneForm d ys xs c s → (way : Var → SortId) → IsMaximalWay d xs s way → IsMaximalWay d ys c way
maximal_along d xs ys s c h g way m = record {
  is_way = way_along d xs ys s c h way m.is_way;
  maximal = λ other w above y o. m.maximal other (way_along d ys xs c s g other w) (λ z i. above z (h.there z i)) y (h.back y o);
}
