-- A step of an equation inside a term is one at a place of its flat form, and no identity has one.
use Rattle.std.proofs.Common.{◌≡◌, List, [], ◌∷◌, ◌++◌, refl, sym, ◌∙◌, subst}
use Rattle.fvn_terms.specs.declared.plain.SortId.{SortId}
use Rattle.fvn_terms.specs.declared.declarations.Axioms.{Axioms}
use Rattle.fvn_terms.specs.declared.declarations.Axioms.TheVariants.{Free, Comm, AssocComm, AssocCommId}
use Rattle.fvn_terms.specs.declared.declarations.Declarations.{Declarations}
use Rattle.fvn_terms.specs.Term.{Term}
use Rattle.fvn_terms.specs.Signature.{axioms, HasKind}
use Rattle.fvn_terms.specs.Places.{AtOnePlace, stop}
use Rattle.fvn_terms.specs.Theory.{Equations, IsRule}
use Rattle.fvn_forms.specs.Flat.{FlatTerm}
use Rattle.fvn_forms.specs.Canon.{parts, build, canon}
use Rattle.fvn_forms.specs.Good.{IsGood}
use Rattle.fvn_forms.proofs.Build.{parts_none_iff, build_joined}
use Rattle.fvn_signature.specs.Queries.{IsCompleted}
use Rattle.fvn_rewrite_laws.specs.Laws.{KindedLaws}
use Rattle.fvn_rewrite_laws.specs.Admissible.{AreAdmissible}
use Rattle.fvn_rewrite_coherence.proofs.Tight.{IsIdentityForm}
use Rattle.fvn_rewrite_coherence.proofs.TightSteps.{whole_step, instance_no_identity}
use Rattle.fvn_rewrite_coherence.proofs.SumSteps.{sum_with_nothing, sum_step}
use Rattle.fvn_rewrite_coherence.proofs.ArgumentSteps.{StepsInside, no_constant, free_step, commutative_step}
use Rattle.fvn_rewrite_coherence.proofs.PlaceInduction.{KeptUnjoined, KeptBeside, at_one_place}
use Rattle.fvn_rewrite_coherence.proofs.Tightening.{tight_instance}

module _ (d : Declarations) (good : IsGood d) (equations : Equations) (admissible : AreAdmissible d equations) where
  pub step_unjoined : KeptUnjoined d (StepsInside d equations)
  step_unjoined f n before a b after h g k i j s = go (axioms d f) refl where
    go : (x : Axioms) → axioms d f ≡ x → StepsInside d equations (build d f (before ++ a ∷ after)) (build d f (before ++ b ∷ after))
    go Free e = free_step d equations f before a b after h s.step e
    go Comm e = commutative_step d equations f before a b after h s.step e
    go AssocComm e = absurd (n (rw e tt))
    go (AssocCommId o) e = absurd (n (rw e tt))

  pub step_beside : KeptBeside d (StepsInside d equations)
  step_beside f assoc a b o ha hb ho k i j s = record { step = sum_step d equations f assoc a b o ha ho admissible good k i some s.step; no_identity = go (parts d f o) refl } where
    some : parts d f a ≡ [] → ⊥
    some e = s.no_identity (f, (parts_none_iff d f a ha).0 e)

    go : (l : List FlatTerm) → parts d f o ≡ l → IsIdentityForm d (build d f (a ∷ o ∷ [])) → ⊥
    go [] e = subst (λ z. IsIdentityForm d z → ⊥) (sym (sum_with_nothing d f o ho e a ha)) s.no_identity
    go (x ∷ l) e = no_constant d equations (build d f (a ∷ o ∷ [])) (build_joined d f assoc a o some (λ n. let p : [] ≡ x ∷ l = sym n ∙ e in cc))

  -- a step of an equation, at the root
  pub step_at_root : IsCompleted d → (t u : Term) → IsRule d equations t u → StepsInside d equations (canon d t) (canon d u)
  step_at_root completed t u r =
      let i = tight_instance d good completed equations admissible t u r in
      record { step = whole_step d equations (canon d t) (canon d u) i; no_identity = instance_no_identity d equations admissible (canon d t) (canon d u) i }

  module _ (kinded : KindedLaws d equations) where
    -- a step of an equation at one place keeps the kind
    pub rule_keeps : (t u : Term) → AtOnePlace (IsRule d equations) t u → (k : SortId) → HasKind d t k → HasKind d u k
    rule_keeps t u p = kinded.steps t u record { from = t; to = u; before = stop; replaced = p; after = stop }

    -- a step of an equation at one place of a well-kinded term
    pub rule_inside : IsCompleted d → {t u : Term} → AtOnePlace (IsRule d equations) t u → (k : SortId) → HasKind d t k → StepsInside d equations (canon d t) (canon d u)
    rule_inside completed = at_one_place d (StepsInside d equations) good step_unjoined step_beside (IsRule d equations) rule_keeps (λ t u r k h. step_at_root completed t u r)
