-- Substitutions with equal values make equal terms.
use Rattle.std.proofs.Common.{refl, inl, inr}
use Rattle.fvn_terms.specs.declared.plain.Var.{Var}
use Rattle.fvn_terms.specs.declared.declarations.Declarations.{Declarations}
use Rattle.fvn_terms.specs.Term.{Term, Terms, var, app, none, more}
use Rattle.fvn_terms.specs.Substitution.{Substitution, apply, apply_all, Occurs, OccursAmong}
use Rattle.fvn_terms.specs.Equality.{IsAxiomEitherWay, BEqual}
use Rattle.fvn_terms.proofs.Steps.{EachLeads, each_none, each_more}
use Rattle.fvn_terms.proofs.Equal.{BEqual-inside}

module _ (d : Declarations) (s c : Substitution) where
  mutual
    pub apply_equal : (t : Term) → ((x : Var) → Occurs x t → BEqual d (s x) (c x)) → BEqual d (apply s t) (apply c t)
    apply_equal (var x) h = h x refl
    apply_equal (app f ts) h = BEqual-inside d f (apply_each ts h)

    apply_each : (ts : Terms) → ((x : Var) → OccursAmong x ts → BEqual d (s x) (c x)) → EachLeads (IsAxiomEitherWay d) (apply_all s ts) (apply_all c ts)
    apply_each none h = each_none
    apply_each (more t ts) h = each_more (apply_equal t (λ x o. h x (inl o))) (apply_each ts (λ x o. h x (inr o)))
