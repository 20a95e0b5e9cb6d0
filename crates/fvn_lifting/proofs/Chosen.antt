-- Substitutions whose values are chosen by decisions, and what else is decided.
use Rattle.std.proofs.Common.{◌≡◌, ◌⊎◌, ℕ, ◌<◌, ◌≤◌, List, refl, sym, ap, subst, inl, inr, arith}
use Rattle.std.specs.List.{All, Any}
use Rattle.std.proofs.lemmas.Bool.{cases_lt}
use Rattle.fvn_base.specs.Decided.{Decided}
use Rattle.fvn_base.proofs.Decided.{decided_by, both_or}
use Rattle.fvn_terms.specs.declared.plain.Var.{Var}
use Rattle.fvn_terms.specs.declared.plain.SortId.{SortId}
use Rattle.fvn_terms.specs.declared.declarations.Declarations.{Declarations}
use Rattle.fvn_terms.specs.Term.{Term, var}
use Rattle.fvn_terms.specs.Substitution.{Substitution, Occurs}
use Rattle.fvn_terms.specs.Signature.{kind, IsSort, HasKind, same}
use Rattle.fvn_terms.specs.Places.{stop}
use Rattle.fvn_terms.specs.Sorts.{HasSort, IsWellSorted}
use Rattle.fvn_rewrite_laws.proofs.Listing.{occurs_test, occurs_if, test_if}
use Rattle.fvn_lifting.specs.Meetings.{IsNew}

-- the first term where the fact holds, the second where it is refuted
abbrev pub chosen : {P : Type 0} → Decided P → Term → Term → Term
chosen (inl p) a b = a
chosen (inr n) a b = b

pub chosen_if : {P : Type 0} (o : Decided P) (a b : Term) → P → chosen o a b ≡ a
chosen_if (inl p) a b h = refl
chosen_if (inr n) a b h = absurd (n h)

pub chosen_unless : {P : Type 0} (o : Decided P) (a b : Term) → (P → ⊥) → chosen o a b ≡ b
chosen_unless (inl p) a b h = absurd (h p)
chosen_unless (inr n) a b h = refl

-- what is decided
pub occurs_or_not : (x : Var) (t : Term) → Decided (Occurs x t)
occurs_or_not x t = decided_by (occurs_test x t) (occurs_if x t) (test_if x t)

pub either_or : {P Q : Type 0} → Decided P → Decided Q → Decided (P ⊎ Q)
either_or (inl p) q = inl (inl p)
either_or (inr n) (inl q) = inl (inr q)
either_or (inr n) (inr m) = inr (λ w. elim w [ inl p ↦ n p | inr q ↦ m q ])

le_or_not : (m n : ℕ) → Decided (m ≤ n)
le_or_not m n = go (cases_lt n m) where
  go : (n < m) ⊎ (m ≤ n) → Decided (m ≤ n)
  go (inl l) = inr (λ h. omega (arith, l, h))
  go (inr h) = inl h

pub new_or_not : (first : ℕ) (x : Var) → Decided (IsNew first x)
new_or_not first x = both_or (decided_by x.fresh (λ e. e) (λ e. e)) (le_or_not first x.name)

-- what holds of some element, where something holds of all
pub any_with : {A : Type 0} (P Q R : A → Type 0) → ((x : A) → P x → Q x → R x) → (xs : List A) → All Q xs → Any P xs → Any R xs
any_with P Q R f xs q (k, x, l, e, h) = (k, x, l, e, f x h (subst Q e (q k x l)))

module _ (d : Declarations) where
  -- the term has the kind of the sort, if this is a sort, and the sort
  abbrev pub StandsFor : SortId → Term → Type 0
  StandsFor s t = (IsSort d s → HasKind d t (kind d s)) × HasSort d t s

  -- well-sorted substitutions, variable by variable
  pub stands_at : (s : Substitution) → IsWellSorted d s → (x : Var) → StandsFor x.sort (s x)
  stands_at s h x = (h.0 x, h.1 x)

  pub sorted_each : (s : Substitution) → ((x : Var) → StandsFor x.sort (s x)) → IsWellSorted d s
  sorted_each s h = (λ x. (h x).0, λ x. (h x).1)

  pub chosen_stands : {P : Type 0} (o : Decided P) (s : SortId) (a b : Term) → (P → StandsFor s a) → ((P → ⊥) → StandsFor s b) → StandsFor s (chosen o a b)
  chosen_stands (inl p) s a b ha hb = ha p
  chosen_stands (inr n) s a b ha hb = hb n

  pub variable_stands : (s : SortId) (y : Var) → y.sort ≡ s → StandsFor s (var y)
  variable_stands s y e = (
    λ i. (subst (IsSort d) (sym e) i, ap (kind d) e),
    record { form = var y; equal = stop; gets = record { sort = s; gets = e; below = same } },
  )
