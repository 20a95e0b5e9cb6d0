-- Facts that hold or do not.
use Rattle.std.proofs.Common.{◌≡◌, Bool, true, List, [], ◌∷◌, sym, subst, ◌∙◌, ◌⊎◌, inl, inr}
use Rattle.std.specs.List.{Contains}
use Rattle.std.proofs.lemmas.Bool.{cases_Bool, true≢false}
use Rattle.fvn_base.specs.Decided.{Decided}
use Rattle.fvn_base.proofs.Membership.{contains_here, contains_later, contains_cases, contains_none}

-- what is decided and not refuted holds
pub unrefuted : {P : Type 0} → Decided P → ((P → ⊥) → ⊥) → P
unrefuted (inl p) h = p
unrefuted (inr n) h = absurd (h n)

-- what a test tells is decided
pub decided_by : {P : Type 0} (test : Bool) → (test ≡ true → P) → (P → test ≡ true) → Decided P
decided_by test sound complete = elim (cases_Bool test) [ inl e ↦ inl (sound e) | inr e ↦ inr (λ p. true≢false (sym (complete p) ∙ e)) ]

pub both_or : {P Q : Type 0} → Decided P → Decided Q → Decided (P × Q)
both_or (inl p) (inl q) = inl (p, q)
both_or (inl p) (inr n) = inr (λ w. n w.1)
both_or (inr n) q = inr (λ w. n w.0)

-- some element has the property, or none has
pub some_or_none : {A : Type 0} (P : A → Type 0) → ((x : A) → Decided (P x)) → (xs : List A) → ((x : A) × (Contains xs x × P x)) ⊎ ((x : A) → Contains xs x → P x → ⊥)
some_or_none P decide [] = inr (λ y h _. contains_none y h)
some_or_none {A} P decide (x ∷ xs) = go (decide x) (some_or_none P decide xs) where
  go : Decided (P x) → ((y : A) × (Contains xs y × P y)) ⊎ ((y : A) → Contains xs y → P y → ⊥) → ((y : A) × (Contains (x ∷ xs) y × P y)) ⊎ ((y : A) → Contains (x ∷ xs) y → P y → ⊥)
  go (inl p) rest = inl (x, (contains_here x xs, p))
  go (inr n) (inl w) = inl (w.0, (contains_later x xs w.0 w.1.0, w.1.1))
  go (inr n) (inr f) = inr (λ y h p. elim (contains_cases x xs y h) as (λ _. ⊥) [ inl s ↦ n (subst P (sym s) p) | inr i ↦ f y i p ])
