-- Laws of substitutions.
use Rattle.std.proofs.Common.{◌≡◌, refl, ap, ◌∙◌, inl, inr}
use Rattle.fvn_terms.specs.declared.plain.Var.{Var}
use Rattle.fvn_terms.specs.Term.{Term, Terms, var, app, none, more}
use Rattle.fvn_terms.specs.Substitution.{Substitution, apply, apply_all, followed_by, Occurs, OccursAmong}

-- one substitution and then another
mutual
  pub apply-apply : (s c : Substitution) (t : Term) → apply c (apply s t) ≡ apply (followed_by s c) t
  apply-apply s c (var x) = refl
  apply-apply s c (app f ts) = ap (app f) (apply_all-apply_all s c ts)

  pub apply_all-apply_all : (s c : Substitution) (ts : Terms) → apply_all c (apply_all s ts) ≡ apply_all (followed_by s c) ts
  apply_all-apply_all s c none = refl
  apply_all-apply_all s c (more t ts) = ap (λ u. more u (apply_all c (apply_all s ts))) (apply-apply s c t) ∙ ap (more (apply (followed_by s c) t)) (apply_all-apply_all s c ts)

-- each variable replaced by itself
mutual
  pub apply-var : (t : Term) → apply var t ≡ t
  apply-var (var x) = refl
  apply-var (app f ts) = ap (app f) (apply_all-var ts)

  pub apply_all-var : (ts : Terms) → apply_all var ts ≡ ts
  apply_all-var none = refl
  apply_all-var (more t ts) = ap (λ u. more u (apply_all var ts)) (apply-var t) ∙ ap (more t) (apply_all-var ts)

-- substitutions that agree on the variables that occur
mutual
  pub apply-agree : (s c : Substitution) (t : Term) → ((x : Var) → Occurs x t → s x ≡ c x) → apply s t ≡ apply c t
  apply-agree s c (var x) agree = agree x refl
  apply-agree s c (app f ts) agree = ap (app f) (apply_all-agree s c ts agree)

  pub apply_all-agree : (s c : Substitution) (ts : Terms) → ((x : Var) → OccursAmong x ts → s x ≡ c x) → apply_all s ts ≡ apply_all c ts
  apply_all-agree s c none agree = refl
  apply_all-agree s c (more t ts) agree = ap (λ u. more u (apply_all s ts)) (apply-agree s c t (λ x o. agree x (inl o))) ∙ ap (more (apply c t)) (apply_all-agree s c ts (λ x o. agree x (inr o)))
