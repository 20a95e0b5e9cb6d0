-- The variables and the symbols of pairs.
use Rattle.std.proofs.Common.{◌≡◌, ◌+◌, ◌<◌, ◌≤◌, ◌⊎◌, ℕ, Bool, true, false, List, [], ◌∷◌, ◌++◌, take, length, get_or, refl, sym, ap, ◌∙◌, subst, inl, inr, arith}
use Rattle.std.specs.Prelude.{◌↔◌, if◌then◌else◌, Contains}
use Rattle.std.proofs.lemmas.List.{take_more}
use Rattle.std.proofs.lemmas.List.Sums.{sum_by-append, sum_by-cons, sum_by-take-drop}
use Rattle.std.proofs.lemmas.List.Elements.{Contains-append_left, Contains-append_right, Contains-append_cases, Contains-push, Contains-push_cases}
use Rattle.fvn_base.proofs.Membership.{contains_none}
use Rattle.fvn_terms.specs.declared.plain.Var.{Var}
use Rattle.fvn_terms.specs.Substitution.{Occurs, OccursAmong}
use Rattle.fvn_forms.specs.Flat.{FlatTerm, FlatTerms, fvar, fapp, fnone, fmore, plain, plain_all, symbols}
use Rattle.fvn_flat.specs.Variables.{listed, with_variable, with_variables, with_all_variables}
use Rattle.fvn_flat.specs.Problems.{variables, variables_of, plain_pairs}
use Rattle.fvn_flat.specs.Solving.{FlatPairs, symbols_of_pairs}
use Rattle.fvn_flat.proofs.Occurrences.{occurs_in_app}
use Rattle.fvn_flat.proofs.VariableLists.{variables_list, variables_occur}
use Rattle.fvn_refine.proofs.Refined.{listed_member}
use Rattle.fvn_axunify.specs.inner.Asked.{with_pairs}

-- one more variable
listed_new : (vars : List Var) (x y : Var) → Contains (with_variable vars x) y → Contains vars y ⊎ (x ≡ y)
listed_new vars x y c = go (listed vars x) c
  where
    go : (b : Bool) → Contains (if b then vars else vars ++ x ∷ []) y → Contains vars y ⊎ (x ≡ y)
    go true c = inl c
    go false c = Contains-push_cases vars x y c

listed_old : (vars : List Var) (x y : Var) → Contains vars y → Contains (with_variable vars x) y
listed_old vars x y c = go (listed vars x)
  where
    go : (b : Bool) → Contains (if b then vars else vars ++ x ∷ []) y
    go true = c
    go false = Contains-append_left vars (x ∷ []) y c

listed_now : (vars : List Var) (x : Var) → Contains (with_variable vars x) x
listed_now vars x = go (listed vars x) refl
  where
    go : (b : Bool) → listed vars x ≡ b → Contains (if b then vars else vars ++ x ∷ []) x
    go true e = listed_member vars x e
    go false e = Contains-push vars x

mutual
  from_term : (t : FlatTerm) (vars : List Var) (y : Var) → Contains (with_variables t vars) y → Contains vars y ⊎ Occurs y (plain t)
  from_term (fvar x) vars y c = elim (listed_new vars x y c) [ inl o ↦ inl o | inr e ↦ inr (sym e) ]
  from_term (fapp f joined ts) vars y c = elim (from_terms ts vars y c) [ inl o ↦ inl o | inr o ↦ inr ((occurs_in_app y f joined ts).1 o) ]

  pub from_terms : (ts : FlatTerms) (vars : List Var) (y : Var) → Contains (with_all_variables ts vars) y → Contains vars y ⊎ OccursAmong y (plain_all ts)
  from_terms fnone vars y c = inl c
  from_terms (fmore t ts) vars y c = elim (from_terms ts (with_variables t vars) y c) [
    | inr o ↦ inr (inr o)
    | inl o ↦ elim (from_term t vars y o) [ inl a ↦ inl a | inr b ↦ inr (inl b) ]
  ]

mutual
  old_term : (t : FlatTerm) (vars : List Var) (y : Var) → Contains vars y → Contains (with_variables t vars) y
  old_term (fvar x) vars y c = listed_old vars x y c
  old_term (fapp f joined ts) vars y c = old_terms ts vars y c

  old_terms : (ts : FlatTerms) (vars : List Var) (y : Var) → Contains vars y → Contains (with_all_variables ts vars) y
  old_terms fnone vars y c = c
  old_terms (fmore t ts) vars y c = old_terms ts (with_variables t vars) y (old_term t vars y c)

mutual
  in_term : (t : FlatTerm) (vars : List Var) (y : Var) → Occurs y (plain t) → Contains (with_variables t vars) y
  in_term (fvar x) vars y o = subst (λ z. Contains (with_variable vars x) z) (sym o) (listed_now vars x)
  in_term (fapp f joined ts) vars y o = in_terms ts vars y ((occurs_in_app y f joined ts).0 o)

  in_terms : (ts : FlatTerms) (vars : List Var) (y : Var) → OccursAmong y (plain_all ts) → Contains (with_all_variables ts vars) y
  in_terms fnone vars y o = absurd o
  in_terms (fmore t ts) vars y (inl o) = old_terms ts (with_variables t vars) y (in_term t vars y o)
  in_terms (fmore t ts) vars y (inr o) = in_terms ts (with_variables t vars) y o

from_pairs : (ps : FlatPairs) (vars : List Var) (y : Var) → Contains (with_pairs ps vars) y → Contains vars y ⊎ Contains (variables_of (plain_pairs ps)) y
from_pairs [] vars y c = inl c
from_pairs (p ∷ ps) vars y c =
    let own = variables (plain p.0) ++ variables (plain p.1) in
    elim (from_pairs ps (with_variables p.1 (with_variables p.0 vars)) y c) [
      | inr o ↦ inr (Contains-append_right own (variables_of (plain_pairs ps)) y o)
      | inl o ↦
          elim (from_term p.1 (with_variables p.0 vars) y o) [
            | inr b ↦ inr (Contains-append_left own (variables_of (plain_pairs ps)) y (Contains-append_right (variables (plain p.0)) (variables (plain p.1)) y (variables_list y (plain p.1) b)))
            | inl a ↦
                elim (from_term p.0 vars y a) [
                  | inr b ↦ inr (Contains-append_left own (variables_of (plain_pairs ps)) y (Contains-append_left (variables (plain p.0)) (variables (plain p.1)) y (variables_list y (plain p.0) b)))
                  | inl k ↦ inl k
                ]
          ]
    ]

old_pairs : (ps : FlatPairs) (vars : List Var) (y : Var) → Contains vars y → Contains (with_pairs ps vars) y
old_pairs [] vars y c = c
old_pairs (p ∷ ps) vars y c = old_pairs ps (with_variables p.1 (with_variables p.0 vars)) y (old_term p.1 (with_variables p.0 vars) y (old_term p.0 vars y c))

in_pairs : (ps : FlatPairs) (vars : List Var) (y : Var) → Contains (variables_of (plain_pairs ps)) y → Contains (with_pairs ps vars) y
in_pairs [] vars y c = absurd (contains_none y c)
in_pairs (p ∷ ps) vars y c =
    elim (Contains-append_cases (variables (plain p.0) ++ variables (plain p.1)) (variables_of (plain_pairs ps)) y c) [
      | inr r ↦ in_pairs ps (with_variables p.1 (with_variables p.0 vars)) y r
      | inl l ↦ old_pairs ps (with_variables p.1 (with_variables p.0 vars)) y (of_pair (Contains-append_cases (variables (plain p.0)) (variables (plain p.1)) y l))
    ]
  where
    of_pair : Contains (variables (plain p.0)) y ⊎ Contains (variables (plain p.1)) y → Contains (with_variables p.1 (with_variables p.0 vars)) y
    of_pair (inl a) = old_term p.1 (with_variables p.0 vars) y (in_term p.0 vars y (variables_occur y (plain p.0) a))
    of_pair (inr b) = in_term p.1 (with_variables p.0 vars) y (variables_occur y (plain p.1) b)

-- the variables that are found are those of the problem
pub variables_exact : (ps : FlatPairs) (y : Var) → Contains (with_pairs ps []) y ↔ Contains (variables_of (plain_pairs ps)) y
variables_exact ps y = (λ c. elim (from_pairs ps [] y c) [ inl o ↦ absurd (contains_none y o) | inr o ↦ o ], in_pairs ps [] y)

with_pairs-push : (ps : FlatPairs) (p : FlatTerm × FlatTerm) (vars : List Var) → with_pairs (ps ++ p ∷ []) vars ≡ with_variables p.1 (with_variables p.0 (with_pairs ps vars))
with_pairs-push [] p vars = refl
with_pairs-push (q ∷ ps) p vars = with_pairs-push ps p (with_variables q.1 (with_variables q.0 vars))

pub with_pairs-step : (ps : FlatPairs) (i : ℕ) (p : FlatTerm × FlatTerm) (vars : List Var) → i < length ps → p ≡ get_or ps i p → with_pairs (take (i + 1) ps) vars ≡ with_variables p.1 (with_variables p.0 (with_pairs (take i ps) vars))
with_pairs-step ps i p vars l e = ap (λ l. with_pairs l vars) (take_more ps i p l ∙ ap (λ q. take i ps ++ q ∷ []) (sym e)) ∙ with_pairs-push (take i ps) p vars

plain_zero : (n : ℕ) → n + 0 ≡ n
plain_zero n = omega arith

-- the symbols of one more pair
pub symbols-step : (ps : FlatPairs) (i : ℕ) (p : FlatTerm × FlatTerm) → i < length ps → p ≡ get_or ps i p → symbols_of_pairs (take (i + 1) ps) ≡ symbols_of_pairs (take i ps) + (symbols p.0 + symbols p.1)
symbols-step ps i p l e =
    ap symbols_of_pairs (take_more ps i p l ∙ ap (λ q. take i ps ++ q ∷ []) (sym e))
    ∙ sum_by-append (λ p. symbols p.0 + symbols p.1) (take i ps) (p ∷ [])
    ∙ ap (λ n. symbols_of_pairs (take i ps) + n) (sum_by-cons (λ p. symbols p.0 + symbols p.1) p [] ∙ plain_zero (symbols p.0 + symbols p.1))

-- those of some of them are no more
pub symbols-front : (ps : FlatPairs) (n : ℕ) → symbols_of_pairs (take n ps) ≤ symbols_of_pairs ps
symbols-front ps n = let e = sum_by-take-drop (λ p. symbols p.0 + symbols p.1) ps n in omega (arith, e)
