-- Arguments that are the terms of numbers.
use Rattle.std.proofs.Common.{◌≡◌, ℕ, List, [], ◌∷◌, map, refl, ap, ◌∙◌, subst, sym, inl, inr, Contains}
use Rattle.fvn_base.proofs.Membership.{contains_here, contains_later, contains_cases, contains_none}
use Rattle.fvn_terms.specs.declared.plain.Var.{Var}
use Rattle.fvn_terms.specs.declared.declarations.Declarations.{Declarations}
use Rattle.fvn_terms.specs.Term.{Term, more, pack}
use Rattle.fvn_terms.specs.Substitution.{Substitution, apply, apply_all, Occurs, OccursAmong}
use Rattle.fvn_terms.specs.Places.{stop}
use Rattle.fvn_terms.specs.Equality.{IsAxiomEitherWay, BEqual}
use Rattle.fvn_terms.proofs.Steps.{EachLeads, each_none, each_more}

-- terms that are one are equal modulo the axioms
pub equal_is : (d : Declarations) {t u : Term} → t ≡ u → BEqual d t u
equal_is d {t} {u} e = subst (BEqual d t) e stop

-- two maps that agree on a list
pub map_agree : {A : Type 0} (f h : ℕ → A) (ks : List ℕ) → ((k : ℕ) → Contains ks k → f k ≡ h k) → map f ks ≡ map h ks
map_agree f h [] same = refl
map_agree f h (k ∷ ks) same = ap (λ a. a ∷ map f ks) (same k (contains_here k ks)) ∙ ap (λ l. h k ∷ l) (map_agree f h ks (λ l c. same l (contains_later k ks l c)))

module _ (T : ℕ → Term) where
  -- a variable of the arguments is one of an argument
  pub among_mapped : (x : Var) (ks : List ℕ) → OccursAmong x (pack (map T ks)) → (k : ℕ) × (Contains ks k × Occurs x (T k))
  among_mapped x [] o = absurd o
  among_mapped x (k ∷ ks) (inl o) = (k, (contains_here k ks, o))
  among_mapped x (k ∷ ks) (inr o) = let r = among_mapped x ks o in (r.0, (contains_later k ks r.0 r.1.0, r.1.1))

  pub mapped_among : (x : Var) (ks : List ℕ) (k : ℕ) → Contains ks k → Occurs x (T k) → OccursAmong x (pack (map T ks))
  mapped_among x [] k c o = absurd (contains_none k c)
  mapped_among x (l ∷ ks) k c o = elim (contains_cases l ks k c) as (λ _. OccursAmong x (pack (map T (l ∷ ks)))) [
    | inl e ↦ inl (subst (λ n. Occurs x (T n)) (sym e) o)
    | inr r ↦ inr (mapped_among x ks k r o)
  ]

  -- an instance of the arguments
  pub apply_mapped : (s : Substitution) (ks : List ℕ) → apply_all s (pack (map T ks)) ≡ pack (map (λ k. apply s (T k)) ks)
  apply_mapped s [] = refl
  apply_mapped s (k ∷ ks) = ap (λ ts. more (apply s (T k)) ts) (apply_mapped s ks)

-- arguments that are equal place by place
pub each_equal : (d : Declarations) (S T : ℕ → Term) (ks : List ℕ) → ((k : ℕ) → Contains ks k → BEqual d (S k) (T k)) → EachLeads (IsAxiomEitherWay d) (pack (map S ks)) (pack (map T ks))
each_equal d S T [] h = each_none
each_equal d S T (k ∷ ks) h = each_more (h k (contains_here k ks)) (each_equal d S T ks (λ l c. h l (contains_later k ks l c)))
