-- The variables that are listed are those that occur, each once.
use Rattle.std.proofs.Common.{◌≡◌, ◌≢◌, ◌⊎◌, inl, inr, Bool, true, false, List, [], ◌∷◌, ◌++◌, refl, sym, ap, ◌∙◌, subst, arith}
use Rattle.std.specs.Prelude.{◌||◌, ◌↔◌, if◌then◌else◌, Contains, AllPairs}
use Rattle.std.specs.List.{list_any}
use Rattle.std.proofs.lemmas.List.{get_or_default}
use Rattle.std.proofs.lemmas.List.Elements.{Contains-push, Contains-append_left, Contains-push_cases}
use Rattle.std.proofs.lemmas.List.Quantifiers.{all_pairs_push}
use Rattle.fvn_base.proofs.Membership.{contains_here, contains_later, contains_cases, contains_none}
use Rattle.fvn_terms.specs.declared.plain.Var.{Var}
use Rattle.fvn_terms.specs.declared.plain.Plain.{Plain}
use Rattle.fvn_terms.specs.Term.{Term, Terms, var, app, none, more}
use Rattle.fvn_terms.specs.Plain.{term}
use Rattle.fvn_terms.specs.Substitution.{Occurs, OccursAmong, same_var}
use Rattle.fvn_terms.proofs.Variables.{same_var_is, same_var_itself}
use Rattle.fvn_problems.specs.Variables.{with_variable, with_variables, with_all, with_sides, OccursInSides}

any_contains : (x : Var) (xs : List Var) → list_any (same_var x) xs ≡ true → Contains xs x
any_contains x [] e = cc
any_contains x (y ∷ ys) e = go (same_var x y) refl (any_contains x ys) e where
  go : (b : Bool) → same_var x y ≡ b → (list_any (same_var x) ys ≡ true → Contains ys x) → b || list_any (same_var x) ys ≡ true → Contains (y ∷ ys) x
  go true is later e = subst (λ z. Contains (z ∷ ys) x) (same_var_is x y is) (contains_here x ys)
  go false is later e = contains_later y ys x (later e)

not_contained : (x : Var) (xs : List Var) → list_any (same_var x) xs ≡ false → Contains xs x → ⊥
not_contained x [] e h = contains_none x h
not_contained x (y ∷ ys) e h = go (same_var x y) refl (not_contained x ys) e where
  go : (b : Bool) → same_var x y ≡ b → (list_any (same_var x) ys ≡ false → Contains ys x → ⊥) → b || list_any (same_var x) ys ≡ false → ⊥
  go true is later e = (let f : true ≡ false = e in cc)
  go false is later e = elim (contains_cases y ys x h) as (λ _. ⊥) [ inl same ↦ (let f : true ≡ false = sym (same_var_itself x) ∙ ap (same_var x) (sym same) ∙ is in cc) | inr there ↦ later e there ]

-- each of xs occurs, what occurs is one of them, and no two are one
pub record Lists (IsThere : Var → Type 0) (xs : List Var) : Type 0 where
  pub exact : (x : Var) → Contains xs x ↔ IsThere x
  pub distinct : AllPairs (λ x y. x ≢ y) xs

pub lists-nothing : Lists (λ x. ⊥) []
lists-nothing = record { exact = λ x. (λ h. contains_none x h, λ h. absurd h); distinct = λ i j d l m. absurd (omega arith) }

pub relabel : (P Q : Var → Type 0) (xs : List Var) → ((x : Var) → P x → Q x) → ((x : Var) → Q x → P x) → Lists P xs → Lists Q xs
relabel P Q xs f g h = record { exact = λ x. (λ c. f x ((h.exact x).0 c), λ q. (h.exact x).1 (g x q)); distinct = h.distinct }

module _ (P : Var → Type 0) (xs : List Var) (x : Var) (h : Lists P xs) where
  known : Contains xs x → Lists (λ y. P y ⊎ (y ≡ x)) xs
  known k = record {
    exact = λ y. (
      λ c. inl ((h.exact y).0 c),
      λ o. elim o [ inl p ↦ (h.exact y).1 p | inr e ↦ subst (Contains xs) (sym e) k ],
    );
    distinct = h.distinct;
  }

  new : (Contains xs x → ⊥) → Lists (λ y. P y ⊎ (y ≡ x)) (xs ++ (x ∷ []))
  new n = record {
    exact = λ y. (
      λ c. elim (Contains-push_cases xs x y c) [ inl k ↦ inl ((h.exact y).0 k) | inr e ↦ inr (sym e) ],
      λ o. elim o [ inl p ↦ Contains-append_left xs (x ∷ []) y ((h.exact y).1 p) | inr e ↦ subst (Contains (xs ++ (x ∷ []))) (sym e) (Contains-push xs x) ],
    );
    distinct = all_pairs_push (λ y z. y ≢ z) xs x h.distinct (λ k d l e. n (k, l, get_or_default xs k x d l ∙ e));
  }

  lists-variable : Lists (λ y. P y ⊎ (y ≡ x)) (with_variable xs x)
  lists-variable = go (list_any (same_var x) xs) refl where
    go : (b : Bool) → list_any (same_var x) xs ≡ b → Lists (λ y. P y ⊎ (y ≡ x)) (if b then xs else xs ++ (x ∷ []))
    go true e = known (any_contains x xs e)
    go false e = new (not_contained x xs e)

mutual
  pub lists-term : (t : Term) (P : Var → Type 0) (xs : List Var) → Lists P xs → Lists (λ y. P y ⊎ Occurs y t) (with_variables xs t)
  lists-term (var x) P xs h = lists-variable P xs x h
  lists-term (app f ts) P xs h = lists-terms ts P xs h

  pub lists-terms : (ts : Terms) (P : Var → Type 0) (xs : List Var) → Lists P xs → Lists (λ y. P y ⊎ OccursAmong y ts) (with_all xs ts)
  lists-terms none P xs h = relabel P (λ y. P y ⊎ ⊥) xs (λ y p. inl p) (λ y o. elim o [ inl p ↦ p | inr q ↦ absurd q ]) h
  lists-terms (more t ts) P xs h =
      relabel (λ y. (P y ⊎ Occurs y t) ⊎ OccursAmong y ts) (λ y. P y ⊎ (Occurs y t ⊎ OccursAmong y ts)) (with_all (with_variables xs t) ts)
      (λ y o. elim o [ inl a ↦ elim a [ inl p ↦ inl p | inr q ↦ inr (inl q) ] | inr b ↦ inr (inr b) ])
      (λ y o. elim o [ inl p ↦ inl (inl p) | inr a ↦ elim a [ inl q ↦ inl (inr q) | inr b ↦ inr b ] ])
      (lists-terms ts (λ y. P y ⊎ Occurs y t) (with_variables xs t) (lists-term t P xs h))

pub lists-sides : (ps : List (Plain × Plain)) (P : Var → Type 0) (xs : List Var) → Lists P xs → Lists (λ y. P y ⊎ OccursInSides ps y) (with_sides xs ps)
lists-sides [] P xs h = relabel P (λ y. P y ⊎ ⊥) xs (λ y p. inl p) (λ y o. elim o [ inl p ↦ p | inr q ↦ absurd q ]) h
lists-sides (p ∷ ps) P xs h =
    let l = lists-term (term p.0) P xs h in
    let r = lists-term (term p.1) (λ y. P y ⊎ Occurs y (term p.0)) (with_variables xs (term p.0)) l in
    relabel (λ y. ((P y ⊎ Occurs y (term p.0)) ⊎ Occurs y (term p.1)) ⊎ OccursInSides ps y) (λ y. P y ⊎ ((Occurs y (term p.0) ⊎ Occurs y (term p.1)) ⊎ OccursInSides ps y))
    (with_sides (with_variables (with_variables xs (term p.0)) (term p.1)) ps)
    (λ y o. elim o [ inl a ↦ elim a [ inl b ↦ elim b [ inl q ↦ inl q | inr z ↦ inr (inl (inl z)) ] | inr z ↦ inr (inl (inr z)) ] | inr z ↦ inr (inr z) ])
    (λ y o. elim o [ inl q ↦ inl (inl (inl q)) | inr a ↦ elim a [ inl b ↦ elim b [ inl z ↦ inl (inl (inr z)) | inr z ↦ inl (inr z) ] | inr z ↦ inr z ] ])
    (lists-sides ps (λ y. (P y ⊎ Occurs y (term p.0)) ⊎ Occurs y (term p.1)) (with_variables (with_variables xs (term p.0)) (term p.1)) r)

pub alone-listed : (P : Var → Type 0) (xs : List Var) → Lists (λ y. ⊥ ⊎ P y) xs → Lists P xs
alone-listed P xs h = relabel (λ y. ⊥ ⊎ P y) P xs (λ y o. elim o [ inl q ↦ absurd q | inr p ↦ p ]) (λ y p. inr p) h
