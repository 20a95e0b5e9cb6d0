-- A variable that does not occur in a term, and a substitution with one value changed.
use Rattle.std.proofs.Common.{◌≡◌, ℕ, ◌+◌, ◌<◌, Bool, true, false, inl, inr, refl, sym, ap, subst, arith}
use Rattle.std.specs.Prelude.{if◌then◌else◌}
use Rattle.fvn_terms.specs.declared.plain.Var.{Var}
use Rattle.fvn_terms.specs.declared.plain.SortId.{SortId}
use Rattle.fvn_terms.specs.declared.declarations.Declarations.{Declarations}
use Rattle.fvn_terms.specs.Term.{Term, Terms, var, app, none, more}
use Rattle.fvn_terms.specs.Substitution.{Substitution, apply, apply_all, same_var, Occurs, OccursAmong}
use Rattle.fvn_terms.specs.Signature.{kind, IsSort, HasKind}
use Rattle.fvn_terms.specs.Places.{AtOnePlace, AmongOnePlace, here, inside, first, later, stop}
use Rattle.fvn_terms.specs.Equality.{BEqual}
use Rattle.fvn_terms.specs.Sorts.{HasSort, IsWellSorted}
use Rattle.fvn_terms.specs.Theory.{Equations}
use Rattle.fvn_terms.specs.Rewriting.{Rewrites, TermSequence}
use Rattle.fvn_flat.proofs.Binding.{same_var_is, same_var_itself}
use Rattle.fvn_rewrite_laws.specs.Agreement.{AgreeOn}
use Rattle.fvn_rewrite_peaks.specs.Laws.{ValuesLeadOn}

-- a number above the names of all variables of the term
abbrev mutual
  names_below : Term → ℕ
  names_below (var x) = x.name + 1
  names_below (app f ts) = names_among ts

  names_among : Terms → ℕ
  names_among none = 0
  names_among (more t ts) = names_below t + names_among ts

mutual
  name_is_below : (x : Var) (t : Term) → Occurs x t → x.name < names_below t
  name_is_below x (var y) o = let e : x.name ≡ y.name = ap (λ (z : Var). z.name) o in omega arith
  name_is_below x (app f ts) o = name_is_among x ts o

  name_is_among : (x : Var) (ts : Terms) → OccursAmong x ts → x.name < names_among ts
  name_is_among x none o = absurd o
  name_is_among x (more t ts) (inl o) = let h = name_is_below x t o in omega arith
  name_is_among x (more t ts) (inr o) = let h = name_is_among x ts o in omega arith

-- a variable of the sort that does not occur in the term
abbrev pub new_of : Term → SortId → Var
new_of t s = record { name = names_below t; sort = s; fresh = false }

pub new_is_new : (t : Term) (s : SortId) → Occurs (new_of t s) t → ⊥
new_is_new t s o = let h = name_is_below (new_of t s) t o in omega arith

-- the substitution with this value for z
abbrev pub with_value : Substitution → Var → Term → Substitution
with_value s z q x = if same_var x z then q else s x

pub value_there : (s : Substitution) (z : Var) (q : Term) → with_value s z q z ≡ q
value_there s z q = rw (same_var_itself z) refl

pub value_elsewhere : (s : Substitution) (z : Var) (q : Term) (x : Var) → (x ≡ z → ⊥) → with_value s z q x ≡ s x
value_elsewhere s z q x n = go (same_var x z) refl where
  go : (b : Bool) → same_var x z ≡ b → (if b then q else s x) ≡ s x
  go true e = absurd (n (same_var_is x z e))
  go false e = refl

-- terms that differ at one place, where their instances are one, have one instance
module _ (R : Term → Term → Type 0) (c : Substitution) (same : (v w : Term) → R v w → apply c v ≡ apply c w) where
  mutual
    pub one_instance : {t u : Term} → AtOnePlace R t u → apply c t ≡ apply c u
    one_instance (here {t} {u} r) = same t u r
    one_instance (inside {f} p) = ap (app f) (one_list p)

    one_list : {ts us : Terms} → AmongOnePlace R ts us → apply_all c ts ≡ apply_all c us
    one_list (first {ts} p) = ap (λ (x : Term). more x (apply_all c ts)) (one_instance p)
    one_list (later {t} p) = ap (more (apply c t)) (one_list p)

module _ (d : Declarations) where
  -- a value of the variable's kind and sort may be put in place of its own
  pub value_sorted : (s : Substitution) (z : Var) (q : Term) → IsWellSorted d s → (IsSort d z.sort → HasKind d q (kind d z.sort)) → HasSort d q z.sort → IsWellSorted d (with_value s z q)
  value_sorted s z q sorted of_kind of_sort = (λ x i. keeps x i (same_var x z) refl, λ x. has x (same_var x z) refl) where
    keeps : (x : Var) → IsSort d x.sort → (b : Bool) → same_var x z ≡ b → HasKind d (if b then q else s x) (kind d x.sort)
    keeps x i true e = subst (λ (y : Var). HasKind d q (kind d y.sort)) (sym (same_var_is x z e)) (of_kind (subst (λ (y : Var). IsSort d y.sort) (same_var_is x z e) i))
    keeps x i false e = sorted.0 x i

    has : (x : Var) (b : Bool) → same_var x z ≡ b → HasSort d (if b then q else s x) x.sort
    has x true e = subst (λ (y : Var). HasSort d q y.sort) (sym (same_var_is x z e)) of_sort
    has x false e = sorted.1 x

  -- a value at a variable that does not occur changes nothing
  pub value_agrees : (s : Substitution) (z : Var) (q : Term) (t : Term) → (Occurs z t → ⊥) → AgreeOn d t (with_value s z q) s
  value_agrees s z q t n x o = subst (λ v. BEqual d (with_value s z q x) v) (value_elsewhere s z q x (λ e. n (subst (λ y. Occurs y t) e o))) stop

  -- a step of one value leads from the one substitution to the other
  pub value_leads : (equations : Equations) (s : Substitution) (y : Var) (q : Term) → Rewrites d equations (s y) q → ValuesLeadOn d equations s (with_value s y q)
  value_leads equations s y q step x = go (same_var x y) refl where
    go : (b : Bool) → same_var x y ≡ b → (k : ℕ) × TermSequence d equations k (s x) (if b then q else s x)
    go true e = (1, (q, (subst (λ z. Rewrites d equations (s z) q) (sym (same_var_is x y e)) step, stop)))
    go false e = (0, stop)
