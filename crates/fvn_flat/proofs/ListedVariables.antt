-- Variables of forms, listed in order of first occurrence: none twice, and all that occur.
use Rattle.std.proofs.Common.{◌≡◌, ◌≢◌, ℕ, ◌+◌, ◌<◌, Bool, true, false, List, [], ◌∷◌, ◌++◌, length, take, get_or, refl, sym, ap, ◌∙◌, subst, inl, inr, arith}
use Rattle.std.specs.Prelude.{◌||◌, if◌then◌else◌, AllPairs, Contains}
use Rattle.std.proofs.lemmas.List.{take_more}
use Rattle.std.proofs.lemmas.Bool.{or_parts, or_from, or_right, true≢false, false≢true}
use Rattle.fvn_base.proofs.Pigeonhole.{AllPairs-tail, AllPairs-first, AllPairs-cons}
use Rattle.fvn_terms.specs.declared.plain.Var.{Var}
use Rattle.fvn_terms.specs.Substitution.{same_var, Occurs, OccursAmong}
use Rattle.fvn_forms.specs.Flat.{FlatTerm, FlatTerms, fvar, fapp, fnone, fmore, fpack, plain, plain_all}
use Rattle.fvn_flat.specs.Variables.{listed, with_variable, with_variables, with_all_variables}
use Rattle.fvn_flat.proofs.Occurrences.{occurs_in_app}
use Rattle.fvn_flat.proofs.Binding.{same_var_is, same_var_itself}
use Rattle.fvn_flat.proofs.Listed.{listed_if, listed_only}

-- no variable is listed twice
abbrev pub Distinct : List Var → Type 0
Distinct [] = Unit {0}
Distinct (x ∷ vars) = (listed vars x ≡ false) × Distinct vars

pub other_way : (x y : Var) → same_var y x ≡ false → same_var x y ≡ false
other_way x y e = go (same_var x y) refl
  where
    go : (b : Bool) → same_var x y ≡ b → same_var x y ≡ false
    go true f = absurd (true≢false (sym (subst (λ z. same_var y z ≡ true) (sym (same_var_is x y f)) (same_var_itself y)) ∙ e))
    go false f = f

listed_none : (vars : List Var) (x y : Var) → listed vars y ≡ false → same_var x y ≡ false → listed (vars ++ x ∷ []) y ≡ false
listed_none [] x y e n = or_from (same_var x y) false n refl
listed_none (z ∷ vars) x y e n = let both = or_parts (same_var z y) (listed vars y) e in or_from (same_var z y) (listed (vars ++ x ∷ []) y) both.0 (listed_none vars x y both.1 n)

pub Distinct-push : (vars : List Var) (x : Var) → Distinct vars → listed vars x ≡ false → Distinct (vars ++ x ∷ [])
Distinct-push [] x h e = (refl, tt)
Distinct-push (y ∷ vars) x h e = let both = or_parts (same_var y x) (listed vars x) e in (listed_none vars x y h.0 (other_way x y both.0), Distinct-push vars x h.1 both.1)

pub with_variable_distinct : (vars : List Var) (x : Var) → Distinct vars → Distinct (with_variable vars x)
with_variable_distinct vars x h = go (listed vars x) refl
  where
    go : (b : Bool) → listed vars x ≡ b → Distinct (if b then vars else vars ++ x ∷ [])
    go true e = h
    go false e = Distinct-push vars x h e

-- a list that has each variable once, as pairs
pub distinct_pairs : (vars : List Var) → Distinct vars → AllPairs ◌≢◌ vars
distinct_pairs [] h = λ i j d l m. absurd (omega (arith, m))
distinct_pairs (x ∷ vars) h = AllPairs-cons x vars (distinct_pairs vars h.1) (λ y k e. true≢false (sym (listed_if vars x (subst (Contains vars) (sym e) k)) ∙ h.0))

pub pairs_distinct : (vars : List Var) → AllPairs ◌≢◌ vars → Distinct vars
pairs_distinct [] h = tt
pairs_distinct (x ∷ vars) h = (go (listed vars x) refl, pairs_distinct vars (AllPairs-tail ◌≢◌ x vars h))
  where
    go : (b : Bool) → listed vars x ≡ b → listed vars x ≡ false
    go true e = absurd (AllPairs-first ◌≢◌ x vars x h (listed_only vars x e) refl)
    go false e = e

mutual
  pub with_variables_distinct : (t : FlatTerm) (vars : List Var) → Distinct vars → Distinct (with_variables t vars)
  with_variables_distinct (fvar x) vars h = with_variable_distinct vars x h
  with_variables_distinct (fapp f joined ts) vars h = with_all_distinct ts vars h

  pub with_all_distinct : (ts : FlatTerms) (vars : List Var) → Distinct vars → Distinct (with_all_variables ts vars)
  with_all_distinct fnone vars h = h
  with_all_distinct (fmore t ts) vars h = with_all_distinct ts (with_variables t vars) (with_variables_distinct t vars h)

listed_left : (vars : List Var) (y x : Var) → listed vars x ≡ true → listed (vars ++ y ∷ []) x ≡ true
listed_left [] y x e = absurd (false≢true e)
listed_left (z ∷ vars) y x e = go (same_var z x) refl (listed_left vars y x)
  where
    go : (b : Bool) → same_var z x ≡ b → (listed vars x ≡ true → listed (vars ++ y ∷ []) x ≡ true) → (b || listed (vars ++ y ∷ []) x) ≡ true
    go true f rest = refl
    go false f rest = rest (ap (λ b. b || listed vars x) (sym f) ∙ e)

pub listed_last : (vars : List Var) (x : Var) → listed (vars ++ x ∷ []) x ≡ true
listed_last [] x = ap (λ b. b || false) (same_var_itself x)
listed_last (z ∷ vars) x = or_right (same_var z x) (listed (vars ++ x ∷ []) x) (listed_last vars x)

listed_still : (vars : List Var) (y x : Var) → listed vars x ≡ true → listed (with_variable vars y) x ≡ true
listed_still vars y x e = go (listed vars y)
  where
    go : (b : Bool) → listed (if b then vars else vars ++ y ∷ []) x ≡ true
    go true = e
    go false = listed_left vars y x e

listed_now : (vars : List Var) (x : Var) → listed (with_variable vars x) x ≡ true
listed_now vars x = go (listed vars x) refl
  where
    go : (b : Bool) → listed vars x ≡ b → listed (if b then vars else vars ++ x ∷ []) x ≡ true
    go true e = e
    go false e = listed_last vars x

mutual
  pub still_listed : (t : FlatTerm) (vars : List Var) (x : Var) → listed vars x ≡ true → listed (with_variables t vars) x ≡ true
  still_listed (fvar y) vars x e = listed_still vars y x e
  still_listed (fapp f joined ts) vars x e = still_all_listed ts vars x e

  pub still_all_listed : (ts : FlatTerms) (vars : List Var) (x : Var) → listed vars x ≡ true → listed (with_all_variables ts vars) x ≡ true
  still_all_listed fnone vars x e = e
  still_all_listed (fmore t ts) vars x e = still_all_listed ts (with_variables t vars) x (still_listed t vars x e)

mutual
  pub occurring_listed : (t : FlatTerm) (vars : List Var) (x : Var) → Occurs x (plain t) → listed (with_variables t vars) x ≡ true
  occurring_listed (fvar y) vars x h = subst (λ z. listed (with_variable vars z) x ≡ true) h (listed_now vars x)
  occurring_listed (fapp f joined ts) vars x h = among_listed ts vars x ((occurs_in_app x f joined ts).0 h)

  among_listed : (ts : FlatTerms) (vars : List Var) (x : Var) → OccursAmong x (plain_all ts) → listed (with_all_variables ts vars) x ≡ true
  among_listed fnone vars x h = absurd h
  among_listed (fmore t ts) vars x (inl h) = still_all_listed ts (with_variables t vars) x (occurring_listed t vars x h)
  among_listed (fmore t ts) vars x (inr h) = among_listed ts (with_variables t vars) x h

with_all-push : (l : List FlatTerm) (t : FlatTerm) (vars : List Var) → with_all_variables (fpack (l ++ t ∷ [])) vars ≡ with_variables t (with_all_variables (fpack l) vars)
with_all-push [] t vars = refl
with_all-push (u ∷ l) t vars = with_all-push l t (with_variables u vars)

-- the variables of one more form
pub with_all-step : (l : List FlatTerm) (i : ℕ) (t : FlatTerm) (vars : List Var) → i < length l → t ≡ get_or l i t → with_all_variables (fpack (take (i + 1) l)) vars ≡ with_variables t (with_all_variables (fpack (take i l)) vars)
with_all-step l i t vars within is =
    ap (λ m. with_all_variables (fpack m) vars) (take_more l i t within ∙ ap (λ u. take i l ++ u ∷ []) (sym is)) ∙ with_all-push (take i l) t vars
