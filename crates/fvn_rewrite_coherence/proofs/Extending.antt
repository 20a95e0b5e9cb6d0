-- A variable that stands in neither side of an equation, and a substitution with one more value.
use Rattle.std.proofs.Common.{◌≡◌, ℕ, ◌+◌, ◌<◌, Bool, true, false, refl, sym, ap, ◌∙◌, subst, inl, inr, arith}
use Rattle.std.specs.Prelude.{if◌then◌else◌}
use Rattle.fvn_terms.specs.declared.plain.Var.{Var}
use Rattle.fvn_terms.specs.declared.plain.SortId.{SortId}
use Rattle.fvn_terms.specs.declared.declarations.Declarations.{Declarations}
use Rattle.fvn_terms.specs.Term.{Term, Terms, var, app, none, more}
use Rattle.fvn_terms.specs.Substitution.{Substitution, same_var, Occurs, OccursAmong}
use Rattle.fvn_terms.specs.Signature.{IsSort, AtOrBelow, kind, HasKind}
use Rattle.fvn_terms.specs.Sorts.{HasSort, IsWellSorted}
use Rattle.fvn_forms.specs.Canon.{canon}
use Rattle.fvn_forms.specs.Good.{IsGood}
use Rattle.fvn_forms.specs.LeastSort.{least_sort}
use Rattle.fvn_forms.proofs.SortOrder.{AtOrBelow-kind}
use Rattle.fvn_forms.proofs.Eval.{canon_settled}
use Rattle.fvn_forms.proofs.ToCanon.{canon_of_kind}
use Rattle.fvn_forms.proofs.LeastSort.{sort_in-kind, least_sort_exact}
use Rattle.fvn_flat.proofs.Binding.{same_var_is, same_var_itself}

-- a number above the names of all variables of the term
abbrev mutual
  pub names_below : Term → ℕ
  names_below (var x) = x.name + 1
  names_below (app f ts) = names_among ts

  names_among : Terms → ℕ
  names_among none = 0
  names_among (more t ts) = names_below t + names_among ts

mutual
  pub name_is_below : (x : Var) (t : Term) → Occurs x t → x.name < names_below t
  name_is_below x (var y) o = let e : x.name ≡ y.name = ap (λ (z : Var). z.name) o in omega arith
  name_is_below x (app f ts) o = name_is_among x ts o

  name_is_among : (x : Var) (ts : Terms) → OccursAmong x ts → x.name < names_among ts
  name_is_among x none o = absurd o
  name_is_among x (more t ts) (inl o) = let h = name_is_below x t o in omega arith
  name_is_among x (more t ts) (inr o) = let h = name_is_among x ts o in omega arith

-- a variable of this sort that occurs in neither term
abbrev pub new_variable : Term → Term → SortId → Var
new_variable t u s = record { name = names_below t + names_below u; sort = s; fresh = false }

pub new_in_first : (t u : Term) (s : SortId) → Occurs (new_variable t u s) t → ⊥
new_in_first t u s o = let h = name_is_below (new_variable t u s) t o in omega arith

pub new_in_second : (t u : Term) (s : SortId) → Occurs (new_variable t u s) u → ⊥
new_in_second t u s o = let h = name_is_below (new_variable t u s) u o in omega arith

-- the substitution with this value for z
abbrev pub with_value : Substitution → Var → Term → Substitution
with_value s z q x = if same_var x z then q else s x

pub value_there : (s : Substitution) (z : Var) (q : Term) → with_value s z q z ≡ q
value_there s z q = rw (same_var_itself z) refl

pub value_elsewhere : (s : Substitution) (z : Var) (q : Term) (x : Var) → (x ≡ z → ⊥) → with_value s z q x ≡ s x
value_elsewhere s z q x n = go (same_var x z) refl where
  go : (b : Bool) → same_var x z ≡ b → (if b then q else s x) ≡ s x
  go true e = absurd (n (same_var_is x z e))
  go false e = refl

module _ (d : Declarations) (good : IsGood d) where
  -- what a term has as its kind is a kind
  pub kind_of_kind : (t : Term) (k : SortId) → HasKind d t k → kind d k ≡ k
  kind_of_kind (var x) k h = ap (kind d) (sym h.1) ∙ good.kinded.own x.sort ∙ h.1
  kind_of_kind (app f ts) k h = ap (kind d) (sym h.result) ∙ good.kinded.own h.rank.result ∙ h.result

  -- a term has its kind as a sort
  pub has_kind_as_sort : (t : Term) (k : SortId) → HasKind d t k → HasSort d t k
  has_kind_as_sort t k h =
      let low = least_sort d (canon d t) in
      let e : kind d low ≡ k = sort_in-kind d good (λ x. x.sort) (λ x i. refl) (canon d t) (canon_settled d t) k (canon_of_kind d good.fits t k h) in
      (least_sort_exact d good t (k, h) k).1 (subst (AtOrBelow d low) e (AtOrBelow-kind d low))

  pub with_value_sorted : (s : Substitution) (z : Var) (q : Term) → IsWellSorted d s → kind d z.sort ≡ z.sort → HasKind d q z.sort → IsWellSorted d (with_value s z q)
  with_value_sorted s z q sorted own h = (λ x i. keeps x i (same_var x z) refl, λ x. has x (same_var x z) refl) where
    keeps : (x : Var) → IsSort d x.sort → (b : Bool) → same_var x z ≡ b → HasKind d (if b then q else s x) (kind d x.sort)
    keeps x i true e = subst (λ (y : Var). HasKind d q (kind d y.sort)) (sym (same_var_is x z e)) (subst (HasKind d q) (sym own) h)
    keeps x i false e = sorted.0 x i

    has : (x : Var) (b : Bool) → same_var x z ≡ b → HasSort d (if b then q else s x) x.sort
    has x true e = subst (λ (y : Var). HasSort d q y.sort) (sym (same_var_is x z e)) (has_kind_as_sort q z.sort h)
    has x false e = sorted.1 x
