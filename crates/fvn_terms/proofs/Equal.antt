-- Laws of equality modulo the axioms.
use Rattle.std.proofs.Common.{inl, inr, List, [], ◌∷◌, subst}
use Rattle.fvn_terms.specs.declared.plain.OpId.{OpId}
use Rattle.fvn_terms.specs.declared.plain.SortId.{SortId}
use Rattle.fvn_terms.specs.declared.declarations.Declarations.{Declarations}
use Rattle.fvn_terms.specs.Term.{Term, Terms, var, app, none, more}
use Rattle.fvn_terms.specs.Substitution.{Substitution, apply, apply_all}
use Rattle.fvn_terms.specs.Signature.{HasKind, HaveKinds, KeepsKinds}
use Rattle.fvn_terms.specs.Places.{stop}
use Rattle.fvn_terms.specs.Equality.{two, constant, IsAxiom, IsAxiomEitherWay, BEqual, swap, shift, right_identity, left_identity}
use Rattle.fvn_terms.proofs.Steps.{Leads-append, Leads-reverse, Leads-map, AtOnePlace-reverse, AtOnePlace-apply, EachLeads, Leads_inside}

-- a term under a substitution keeps its kind
mutual
  pub HasKind-apply : (d : Declarations) (s : Substitution) → KeepsKinds d s → (t : Term) (k : SortId) → HasKind d t k → HasKind d (apply s t) k
  HasKind-apply d s keeps (var x) k h = subst (HasKind d (s x)) h.1 (keeps x h.0)
  HasKind-apply d s keeps (app f ts) k h = record { rank = h.rank; listed = h.listed; args = HaveKinds-apply d s keeps ts _ h.args; result = h.result }

  pub HaveKinds-apply : (d : Declarations) (s : Substitution) → KeepsKinds d s → (ts : Terms) (ks : List SortId) → HaveKinds d ts ks → HaveKinds d (apply_all s ts) ks
  HaveKinds-apply d s keeps none [] h = h
  HaveKinds-apply d s keeps none (k ∷ ks) h = absurd h
  HaveKinds-apply d s keeps (more t ts) [] h = absurd h
  HaveKinds-apply d s keeps (more t ts) (k ∷ ks) h = (HasKind-apply d s keeps t k h.0, HaveKinds-apply d s keeps ts ks h.1)

module _ (d : Declarations) where
  pub either_way : (t u : Term) → IsAxiomEitherWay d t u → IsAxiomEitherWay d u t
  either_way t u (inl a) = inr a
  either_way t u (inr a) = inl a

  pub BEqual-refl : (t : Term) → BEqual d t t
  BEqual-refl t = stop

  pub BEqual-sym : {t u : Term} → BEqual d t u → BEqual d u t
  BEqual-sym p = Leads-reverse (λ t u. AtOnePlace-reverse either_way) p

  pub BEqual-trans : {t u v : Term} → BEqual d t u → BEqual d u v → BEqual d t v
  BEqual-trans = Leads-append

  pub BEqual-inside : (f : OpId) {ts us : Terms} → EachLeads (IsAxiomEitherWay d) ts us → BEqual d (app f ts) (app f us)
  BEqual-inside f e = Leads_inside f e

  module _ (s : Substitution) (keeps : KeepsKinds d s) where
    IsAxiom-apply : (t u : Term) → IsAxiom d t u → IsAxiom d (apply s t) (apply s u)
    IsAxiom-apply t u (swap c) = swap c
    IsAxiom-apply t u (shift a) = shift a
    IsAxiom-apply _ _ (right_identity {f} {e = o} {t} {k} e h j) = right_identity {t = apply s t} {k = k} e (HasKind-apply d s keeps t k h) (HasKind-apply d s keeps (two f t (constant o)) k j)
    IsAxiom-apply _ _ (left_identity {f} {e = o} {t} {k} e h j) = left_identity {t = apply s t} {k = k} e (HasKind-apply d s keeps t k h) (HasKind-apply d s keeps (two f (constant o) t) k j)

    pub either_way-apply : (t u : Term) → IsAxiomEitherWay d t u → IsAxiomEitherWay d (apply s t) (apply s u)
    either_way-apply t u (inl a) = inl (IsAxiom-apply t u a)
    either_way-apply t u (inr a) = inr (IsAxiom-apply u t a)

    pub BEqual-apply : {t u : Term} → BEqual d t u → BEqual d (apply s t) (apply s u)
    BEqual-apply p = Leads-map (apply s) (λ t u. AtOnePlace-apply s either_way-apply) p
