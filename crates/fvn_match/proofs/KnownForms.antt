-- Patterns whose variables are all bound.
use Rattle.std.proofs.Common.{◌≡◌, ℕ, ◌+◌, ◌<◌, Bool, true, false, List, [], ◌∷◌, length, drop, get_or, Option, Some, None, refl, sym, ap, ◌∙◌, subst, inl, inr, arith}
use Rattle.std.specs.Prelude.{◌↔◌, IsTrue, ◌⊎◌, is_some}
use denote.Ref.{Bor}
use Rattle.std.proofs.lemmas.Bool.{false≢true}
use Rattle.fvn_terms.specs.declared.plain.Var.{Var}
use Rattle.fvn_terms.specs.declared.plain.SortId.{SortId}
use Rattle.fvn_terms.specs.declared.declarations.Declarations.{Declarations}
use Rattle.fvn_terms.specs.Substitution.{Occurs}
use Rattle.fvn_terms.specs.Signature.{IsSort, HasKind}
use Rattle.fvn_forms.specs.Flat.{FlatTerm, fvar, plain}
use Rattle.fvn_forms.specs.Canon.{inst}
use Rattle.fvn_forms.specs.Good.{IsGood}
use Rattle.fvn_flat.specs.Bindings.{Bindings, BindingsFit, bound, value, form_or}
use Rattle.fvn_flat.proofs.Occurrences.{OccursIn}
use Rattle.std.proofs.lemmas.List.{drop_more}
use Rattle.fvn_match.specs.inner.Variables.{IsAmong, AreVariablesOf}
use Rattle.fvn_match.specs.inner.Candidates.{IsCandidate, pairs_of}
use Rattle.fvn_match.specs.inner.Goals.{IsBoundTo, weight}
use Rattle.fvn_match.specs.inner.Known.{AreBound, MakesOnly}
use Rattle.fvn_match.specs.inner.Apart.{values_with, ApartFits, TakesApart}
use Rattle.fvn_match.specs.declared.apart.Apart.{Apart}
use Rattle.fvn_match.proofs.VariableSteps.{occurs_in_some}
use Rattle.fvn_match.proofs.Closed.{eval_agree}
use Rattle.fvn_match.proofs.Matchers.{occurs_known, bound_among, bindings_candidate}

-- x is bound
abbrev pub IsBound : Bindings → Var → Type 0
IsBound b x = (v : FlatTerm) × (bound b x ≡ Some v)

-- a variable that is bound
pub variable_bound : (b : Bindings) (x : Var) (found : Option (Bor FlatTerm)) → IsBoundTo b x found → is_some found ≡ true → AreBound b (fvar x)
variable_bound b x None h some = cc
variable_bound b x (Some v) h some = λ y o. (v.now, subst (λ z. bound b z ≡ Some v.now) (sym o) h)

-- each variable of the arguments is bound, or stands in one that is left
abbrev pub AreBoundOr : Bindings → List FlatTerm → List FlatTerm → Type 0
AreBoundOr b all left = (x : Var) → OccursIn x all → IsBound b x ⊎ OccursIn x left

pub one_bound : (b : Bindings) (all ts : List FlatTerm) (i : ℕ) (t : FlatTerm) → i < length ts → t ≡ get_or ts i t → AreBound b t → AreBoundOr b all (drop i ts) → AreBoundOr b all (drop (i + 1) ts)
one_bound b all ts i t within is here before x o = go (before x o)
  where
    first : drop i ts ≡ t ∷ drop (i + 1) ts
    first = drop_more ts i t within ∙ ap (λ u. u ∷ drop (i + 1) ts) (sym is)

    next : OccursIn x (t ∷ drop (i + 1) ts) → IsBound b x ⊎ OccursIn x (drop (i + 1) ts)
    next (inl now) = inl (here x now)
    next (inr later) = inr later

    go : IsBound b x ⊎ OccursIn x (drop i ts) → IsBound b x ⊎ OccursIn x (drop (i + 1) ts)
    go (inl found) = inl found
    go (inr o) = next (subst (OccursIn x) first o)

pub all_bound : (b : Bindings) (all : List FlatTerm) → AreBoundOr b all [] → (x : Var) → OccursIn x all → IsBound b x
all_bound b all h x o = elim (h x o) [ inl found ↦ found | inr none ↦ absurd none ]

module _ (d : Declarations) (b : Bindings) (p : FlatTerm) (vars : List Var) (are : AreVariablesOf (p ∷ []) vars) where
  -- their values make one form of the pattern
  pub instance_only : (v : FlatTerm) → AreBound b p → v ≡ inst d (value (pairs_of vars (value b))) p → MakesOnly d b p v
  instance_only v known is c agrees = eval_agree d c (value (pairs_of vars (value b))) (plain p) agree ∙ sym is
    where
      agree : (x : Var) → Occurs x (plain p) → c x ≡ value (pairs_of vars (value b)) x
      agree x o =
          let h = known x o in
          agrees x h.0 h.1 ∙ sym (ap (form_or x) h.1) ∙ sym (ap (form_or x) (bound_among (value b) vars x ((are.just x).1 ((occurs_in_some x (p ∷ [])).0 (inl o)))))

  pub values_fit : IsGood d → IsCandidate d (value b) → (k : SortId) → HasKind d (plain p) k → BindingsFit d (pairs_of vars (value b))
  values_fit good candidate k kinded = (bindings_candidate d good (value b) candidate vars known).flat
    where
      known : (x : Var) → IsAmong vars x → IsSort d x.sort
      known x h = elim ((occurs_in_some x (p ∷ [])).1 ((are.just x).0 h)) [ inl o ↦ occurs_known d x (plain p) k kinded o | inr none ↦ absurd none ]

-- a pattern that makes one form is compared with the target
pub made_apart : (d : Declarations) (b : Bindings) (a : Apart) → ApartFits d b a → (p t u : FlatTerm) → MakesOnly d (values_with d b a) p u → (same : Bool) → IsTrue same ↔ (u ≡ t) → TakesApart d b a a (λ c. inst d c p ≡ t) (weight p + 2) same
made_apart d b a fits p t u only true iff = record { fits = fits; asks = λ c k. (λ h. h.1, λ h. (only c h.0 ∙ iff.0 refl, h)); lighter = omega arith }
made_apart d b a fits p t u only false iff = λ c k is h. false≢true (iff.1 (sym (only c h.0) ∙ is))
