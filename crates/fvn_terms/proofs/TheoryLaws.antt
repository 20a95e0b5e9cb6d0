-- Laws of equality in a theory.
use Rattle.std.proofs.Common.{inl, inr, ap, ◌∙◌, get_or}
use Rattle.fvn_terms.specs.declared.declarations.Declarations.{Declarations}
use Rattle.fvn_terms.specs.Term.{Term}
use Rattle.fvn_terms.specs.Substitution.{Substitution, apply, followed_by}
use Rattle.fvn_terms.specs.Places.{stop}
use Rattle.fvn_terms.specs.Equality.{BEqual}
use Rattle.fvn_terms.specs.Sorts.{IsWellSorted}
use Rattle.fvn_terms.specs.Unifiers.{Problem}
use Rattle.fvn_terms.specs.Theory.{Equations, IsRule, IsLaw, TEqual, IsTheoryUnifier}
use Rattle.fvn_terms.specs.Laws.{TheoryLaws}
use Rattle.fvn_terms.proofs.Substitutions.{apply-apply}
use Rattle.fvn_terms.proofs.Steps.{Leads-append, Leads-reverse, Leads-map, AtOnePlace-reverse, AtOnePlace-apply, AtOnePlace-weaker}
use Rattle.fvn_terms.proofs.Equal.{either_way, either_way-apply}
use Rattle.fvn_terms.proofs.WellSorted.{IsWellSorted-followed_by}
use Rattle.fvn_terms.proofs.Packs.{congruence}

module _ (d : Declarations) (equations : Equations) where
  law_either_way : (t u : Term) → IsLaw d equations t u → IsLaw d equations u t
  law_either_way t u (inl a) = inl (either_way d t u a)
  law_either_way t u (inr (inl r)) = inr (inr r)
  law_either_way t u (inr (inr r)) = inr (inl r)

  pub TEqual-sym : (t u : Term) → TEqual d equations t u → TEqual d equations u t
  TEqual-sym t u p = Leads-reverse (λ v w. AtOnePlace-reverse law_either_way) p

  pub TEqual-modulo : (t u : Term) → BEqual d t u → TEqual d equations t u
  TEqual-modulo t u p = Leads-map (λ (v : Term). v) (λ v w. AtOnePlace-weaker (λ _ _. inl)) p

  module _ (s : Substitution) (sorted : IsWellSorted d s) where
    pub IsRule-apply : (t u : Term) → IsRule d equations t u → IsRule d equations (apply s t) (apply s u)
    IsRule-apply t u r = record {
      left = r.left;
      right = r.right;
      listed = r.listed;
      by = followed_by r.by s;
      well_sorted = IsWellSorted-followed_by d r.by s r.well_sorted sorted;
      from = ap (apply s) r.from ∙ apply-apply r.by s r.left;
      to = ap (apply s) r.to ∙ apply-apply r.by s r.right;
    }

    IsLaw-apply : (t u : Term) → IsLaw d equations t u → IsLaw d equations (apply s t) (apply s u)
    IsLaw-apply t u (inl a) = inl (either_way-apply d s sorted.0 t u a)
    IsLaw-apply t u (inr (inl r)) = inr (inl (IsRule-apply t u r))
    IsLaw-apply t u (inr (inr r)) = inr (inr (IsRule-apply u t r))

    pub TEqual-apply : (t u : Term) → TEqual d equations t u → TEqual d equations (apply s t) (apply s u)
    TEqual-apply t u p = Leads-map (apply s) (λ v w. AtOnePlace-apply s IsLaw-apply) p

  pub IsTheoryUnifier-followed_by : (problem : Problem) (s c : Substitution) → IsTheoryUnifier d equations problem s → IsWellSorted d c → IsTheoryUnifier d equations problem (followed_by s c)
  IsTheoryUnifier-followed_by problem s c h hc = (
    IsWellSorted-followed_by d s c h.0 hc,
    λ k p in_range. rw (← apply-apply s c (get_or problem k p).0, ← apply-apply s c (get_or problem k p).1) (TEqual-apply c hc _ _ (h.1 k p in_range)),
  )

  pub theory_laws : TheoryLaws d equations
  theory_laws = record {
    equivalence = record { reflexive = λ t. stop; symmetric = TEqual-sym; transitive = λ t u v. Leads-append };
    congruence = congruence;
    modulo = TEqual-modulo;
    substitution = TEqual-apply;
    follows = IsTheoryUnifier-followed_by;
    instances = λ vars a b i. record {
      after = i.after;
      well_sorted = i.well_sorted;
      equal = λ x h. TEqual-modulo _ _ (i.equal x h);
    };
  }
