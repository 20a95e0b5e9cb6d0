-- The variables of forms, each once.
use Rattle.std.proofs.Common.{◌≡◌, ◌≢◌, ℕ, ◌+◌, ◌<◌, Bool, true, false, ◌⊎◌, inl, inr, List, [], ◌∷◌, ◌++◌, length, take, get_or, None, refl, sym, ap, ◌∙◌, subst, arith}
use Rattle.std.specs.Prelude.{◌||◌, ◌↔◌, Contains, AllPairs, if◌then◌else◌}
use Rattle.std.proofs.lemmas.List.{take_more}
use Rattle.std.proofs.lemmas.List.Elements.{Contains-append_left, Contains-append_right, Contains-append_cases}
use Rattle.fvn_base.proofs.Membership.{contains_here, contains_later, contains_cases, contains_none}
use Rattle.fvn_base.proofs.Pigeonhole.{AllPairs-cons}
use Rattle.fvn_terms.specs.declared.plain.Var.{Var}
use Rattle.fvn_terms.specs.Substitution.{same_var, Occurs, OccursAmong}
use Rattle.fvn_forms.specs.Flat.{FlatTerm, FlatTerms, fvar, fapp, fnone, fmore, fpack, plain, plain_all}
use Rattle.fvn_forms.proofs.Sums.{fpack-funpack}
use Rattle.fvn_flat.specs.Forms.{variable_of, args_of}
use Rattle.fvn_flat.specs.Variables.{listed, with_variable, with_variables, with_all_variables}
use Rattle.fvn_flat.proofs.Occurrences.{occurs_in_app}
use Rattle.fvn_terms.proofs.Variables.{same_var_is, same_var_itself}
use Rattle.fvn_answer.specs.Numberings.{IsNumbering}

pub listed-only : (vars : List Var) (x : Var) → listed vars x ≡ true → Contains vars x
listed-only [] x e = cc
listed-only (y ∷ vars) x e = go (same_var y x) refl (listed-only vars x)
  where
    go : (b : Bool) → same_var y x ≡ b → (listed vars x ≡ true → Contains vars x) → Contains (y ∷ vars) x
    go true f ih = subst (Contains (y ∷ vars)) (same_var_is y x f) (contains_here y vars)
    go false f ih = contains_later y vars x (ih (ap (λ b. b || listed vars x) (sym f) ∙ e))

-- Where a variable stands.

contains-variable : (vars : List Var) (x y : Var) → Contains (with_variable vars x) y ↔ (Contains vars y ⊎ (y ≡ x))
contains-variable vars x y = go (listed vars x) refl
  where
    go : (b : Bool) → listed vars x ≡ b → Contains (if listed vars x then vars else vars ++ x ∷ []) y ↔ (Contains vars y ⊎ (y ≡ x))
    go true e = subst (λ b. Contains (if b then vars else vars ++ x ∷ []) y ↔ (Contains vars y ⊎ (y ≡ x))) (sym e)
        (λ h. inl h, λ h. elim h [ inl a ↦ a | inr q ↦ subst (Contains vars) (sym q) (listed-only vars x e) ])
    go false e = subst (λ b. Contains (if b then vars else vars ++ x ∷ []) y ↔ (Contains vars y ⊎ (y ≡ x))) (sym e) (
      λ h. elim (Contains-append_cases vars (x ∷ []) y h) [
        | inl a ↦ inl a
        | inr b ↦ elim (contains_cases x [] y b) [ inl q ↦ inr (sym q) | inr n ↦ absurd (contains_none y n) ]
      ],
      λ h. elim h [
        | inl a ↦ Contains-append_left vars (x ∷ []) y a
        | inr q ↦ Contains-append_right vars (x ∷ []) y (subst (λ z. Contains (x ∷ []) z) (sym q) (contains_here x []))
      ],
    )

with-occurs : {A B C D : Type 0} → A ↔ (B ⊎ C) → D ↔ C → A ↔ (B ⊎ D)
with-occurs h k = (λ a. elim (h.0 a) [ inl b ↦ inl b | inr c ↦ inr (k.1 c) ], λ x. elim x [ inl b ↦ h.1 (inl b) | inr d ↦ h.1 (inr (k.0 d)) ])

both : {A B C D E : Type 0} → A ↔ (B ⊎ C) → B ↔ (D ⊎ E) → A ↔ (D ⊎ (E ⊎ C))
both h k = (
  λ a. elim (h.0 a) [ inl b ↦ elim (k.0 b) [ inl d ↦ inl d | inr e ↦ inr (inl e) ] | inr c ↦ inr (inr c) ],
  λ x. elim x [ inl d ↦ h.1 (inl (k.1 (inl d))) | inr y ↦ elim y [ inl e ↦ h.1 (inl (k.1 (inr e))) | inr c ↦ h.1 (inr c) ] ],
)

mutual
  contains-variables : (t : FlatTerm) (vars : List Var) (y : Var) → Contains (with_variables t vars) y ↔ (Contains vars y ⊎ Occurs y (plain t))
  contains-variables (fvar x) vars y = contains-variable vars x y
  contains-variables (fapp f joined ts) vars y = with-occurs (contains-all ts vars y) (occurs_in_app y f joined ts)

  contains-all : (ts : FlatTerms) (vars : List Var) (y : Var) → Contains (with_all_variables ts vars) y ↔ (Contains vars y ⊎ OccursAmong y (plain_all ts))
  contains-all fnone vars y = (λ h. inl h, λ h. elim h [ inl a ↦ a | inr n ↦ absurd n ])
  contains-all (fmore t ts) vars y = both (contains-all ts (with_variables t vars) y) (contains-variables t vars y)

-- No variable stands twice.

abbrev Distinct : List Var → Type 0
Distinct [] = Unit {0}
Distinct (x ∷ vars) = (Contains vars x → ⊥) × Distinct vars

Distinct-push : (vars : List Var) (x : Var) → Distinct vars → (Contains vars x → ⊥) → Distinct (vars ++ x ∷ [])
Distinct-push [] x h n = (λ k. contains_none x k, tt)
Distinct-push (y ∷ vars) x h n = (
  λ k. elim (Contains-append_cases vars (x ∷ []) y k) [
    | inl a ↦ h.0 a
    | inr b ↦ elim (contains_cases x [] y b) [ inl q ↦ n (subst (Contains (y ∷ vars)) (sym q) (contains_here y vars)) | inr m ↦ contains_none y m ]
  ],
  Distinct-push vars x h.1 (λ k. n (contains_later y vars x k)),
)

pub not-listed : (vars : List Var) (x : Var) → listed vars x ≡ false → Contains vars x → ⊥
not-listed [] x e k = contains_none x k
not-listed (y ∷ vars) x e k = go (same_var y x) refl (not-listed vars x)
  where
    go : (b : Bool) → same_var y x ≡ b → (listed vars x ≡ false → Contains vars x → ⊥) → ⊥
    go true f ih = let n : true ≡ false = ap (λ b. b || listed vars x) (sym f) ∙ e in cc
    go false f ih = elim (contains_cases y vars x k) [
      | inl q ↦ let same : same_var y x ≡ true = subst (λ z. same_var y z ≡ true) q (same_var_itself y) in cc
      | inr m ↦ ih (ap (λ b. b || listed vars x) (sym f) ∙ e) m
    ]

with_variable-distinct : (vars : List Var) (x : Var) → Distinct vars → Distinct (with_variable vars x)
with_variable-distinct vars x h = go (listed vars x) refl
  where
    go : (b : Bool) → listed vars x ≡ b → Distinct (if listed vars x then vars else vars ++ x ∷ [])
    go true e = subst (λ b. Distinct (if b then vars else vars ++ x ∷ [])) (sym e) h
    go false e = subst (λ b. Distinct (if b then vars else vars ++ x ∷ [])) (sym e) (Distinct-push vars x h (not-listed vars x e))

mutual
  with_variables-distinct : (t : FlatTerm) (vars : List Var) → Distinct vars → Distinct (with_variables t vars)
  with_variables-distinct (fvar x) vars h = with_variable-distinct vars x h
  with_variables-distinct (fapp f joined ts) vars h = with_all-distinct ts vars h

  with_all-distinct : (ts : FlatTerms) (vars : List Var) → Distinct vars → Distinct (with_all_variables ts vars)
  with_all-distinct fnone vars h = h
  with_all-distinct (fmore t ts) vars h = with_all-distinct ts (with_variables t vars) (with_variables-distinct t vars h)

in-pairs : (vars : List Var) → Distinct vars → AllPairs (λ x y. x ≢ y) vars
in-pairs [] h = λ i j d l m. absurd (omega (arith, m))
in-pairs (x ∷ vars) h = AllPairs-cons x vars (in-pairs vars h.1) (λ y k e. h.0 (subst (Contains vars) (sym e) k))

-- the variables of forms in order of first occurrence are a numbering
pub numbering : (ts : List FlatTerm) → IsNumbering ts (with_all_variables (fpack ts) [])
numbering ts = record {
  exact = λ x. (
    λ h. elim ((contains-all (fpack ts) [] x).0 h) [ inl n ↦ absurd (contains_none x n) | inr o ↦ o ],
    λ o. (contains-all (fpack ts) [] x).1 (inr o),
  );
  distinct = in-pairs (with_all_variables (fpack ts) []) (with_all-distinct (fpack ts) [] tt);
}

-- one more form
with_all-push : (l : List FlatTerm) (t : FlatTerm) (vars : List Var) → with_all_variables (fpack (l ++ t ∷ [])) vars ≡ with_variables t (with_all_variables (fpack l) vars)
with_all-push [] t vars = refl
with_all-push (u ∷ l) t vars = with_all-push l t (with_variables u vars)

pub with_all-step : (l : List FlatTerm) (i : ℕ) (t : FlatTerm) (vars : List Var) → i < length l → t ≡ get_or l i t →
    with_all_variables (fpack (take (i + 1) l)) vars ≡ with_variables t (with_all_variables (fpack (take i l)) vars)
with_all-step l i t vars within is =
    ap (λ m. with_all_variables (fpack m) vars) (take_more l i t within ∙ ap (λ u. take i l ++ u ∷ []) (sym is))
    ∙ with_all-push (take i l) t vars

-- those of all arguments are those of the form
pub with-args : (t : FlatTerm) (vars : List Var) → variable_of t ≡ None → with_all_variables (fpack (args_of t)) vars ≡ with_variables t vars
with-args (fvar x) vars e = cc
with-args (fapp f joined ts) vars e = ap (λ us. with_all_variables us vars) (fpack-funpack ts)
