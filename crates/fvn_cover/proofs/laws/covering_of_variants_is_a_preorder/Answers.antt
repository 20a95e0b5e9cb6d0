-- the law of substitutions, for variants
use Rattle.std.proofs.Common.{map, sym, subst}
use Rattle.fvn_terms.specs.Variants.{Covers}
use Rattle.fvn_forms.specs.Flat.{plain}
use Rattle.fvn_flat.specs.Solving.{substitution}
use Rattle.fvn_cover.proofs.laws.covering_of_variants_is_a_preorder.Goals as goal

pub returns : goal.returns
returns c = λ d. record {
  reflexive = λ a. (c.covering_is_reflexive_and_transitive.ensures d a.vars).reflexive (map plain a.terms) (substitution a.subst);
  transitive = λ a b e alike h g.
      (c.covering_is_reflexive_and_transitive.ensures d a.vars).transitive (map plain a.terms) (map plain b.terms) (map plain e.terms) (substitution a.subst) (substitution b.subst) (substitution e.subst) h
      (subst (λ vars. Covers d vars (map plain b.terms) (substitution b.subst) (map plain e.terms) (substitution e.subst)) (sym alike.vars) g);
}
