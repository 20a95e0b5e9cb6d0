-- Forms without variables.
use Rattle.std.proofs.Common.{◌≡◌, ◌∷◌, refl, sym, ap, ◌∙◌, inl, inr}
use Rattle.fvn_terms.specs.declared.plain.Var.{Var}
use Rattle.fvn_terms.specs.declared.declarations.Declarations.{Declarations}
use Rattle.fvn_terms.specs.Term.{Term, Terms, var, app, none, more}
use Rattle.fvn_terms.specs.Substitution.{Occurs, OccursAmong}
use Rattle.fvn_forms.specs.Flat.{FlatTerm, fvar, plain}
use Rattle.fvn_forms.specs.Canon.{build, eval, eval_all, inst}
use Rattle.fvn_forms.specs.Settled.{Settled}
use Rattle.fvn_forms.proofs.Eval.{canon_plain}
use Rattle.fvn_match.specs.inner.Variables.{IsClosed}
use Rattle.fvn_match.specs.inner.Candidates.{Values}
use Rattle.fvn_match.specs.inner.Heads.{IsLost}

module _ (d : Declarations) where
  -- values that agree where variables stand in a term
  mutual
    pub eval_agree : (s c : Var → FlatTerm) (t : Term) → ((x : Var) → Occurs x t → s x ≡ c x) → eval d s t ≡ eval d c t
    eval_agree s c (var x) agree = agree x refl
    eval_agree s c (app f ts) agree = ap (build d f) (eval_all_agree s c ts agree)

    eval_all_agree : (s c : Var → FlatTerm) (ts : Terms) → ((x : Var) → OccursAmong x ts → s x ≡ c x) → eval_all d s ts ≡ eval_all d c ts
    eval_all_agree s c none agree = refl
    eval_all_agree s c (more t ts) agree = ap (λ u. u ∷ eval_all d s ts) (eval_agree s c t (λ x o. agree x (inl o))) ∙ ap (λ l. eval d c t ∷ l) (eval_all_agree s c ts (λ x o. agree x (inr o)))

  -- a form without variables makes itself alone
  pub closed_stays : (c : Values) (p : FlatTerm) → Settled d p → IsClosed p → inst d c p ≡ p
  closed_stays c p settled closed = eval_agree c fvar (plain p) (λ x o. absurd (closed x o)) ∙ canon_plain d p settled

  pub closed_lost : (p t : FlatTerm) → Settled d p → IsClosed p → (p ≡ t → ⊥) → IsLost d p t
  closed_lost p t settled closed other = λ c k is. other (sym (closed_stays c p settled closed) ∙ is)
