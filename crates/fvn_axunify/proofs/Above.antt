-- Numbers above those of variables, variable by variable and substitution by substitution.
use Rattle.std.proofs.Common.{◌≡◌, ◌≤◌, ◌<◌, ◌+◌, ◌⊎◌, ℕ, List, [], ◌∷◌, ◌++◌, take, length, get_or, refl, sym, ap, ◌∙◌, subst, inl, inr, arith}
use Rattle.std.specs.Prelude.{max, Any}
use Rattle.std.proofs.lemmas.Bool.{cases_lt}
use Rattle.std.proofs.lemmas.List.{take_more, get_or_default}
use Rattle.std.proofs.lemmas.List.Elements.{All-nil, All-push, All-weaker, Contains-append_left}
use Rattle.std.proofs.lemmas.List.Quantifiers.{Any-push}
use Rattle.fvn_base.specs.declared.limits.TheConstants.{NEXT_FRESH}
use Rattle.fvn_terms.specs.declared.plain.Var.{Var}
use Rattle.fvn_flat.specs.Bindings.{Bindings}
use Rattle.fvn_cover.proofs.Leftovers.{any_contains, any_of}
use Rattle.fvn_refine.specs.Refinements.{variables_of_terms}
use Rattle.fvn_axunify.specs.inner.Numbers.{AreBelow, IsAbove, IsAboveAll}

pub above_none : (low : ℕ) → low ≤ NEXT_FRESH → IsAbove low [] low
above_none low l = record { from = omega arith; small = l; below = All-nil (λ y. y.name < low); just = inl refl }

any_old : {A : Type 0} (P : A → Type 0) (xs : List A) (x : A) → Any P xs → Any P (xs ++ x ∷ [])
any_old P xs x a = let k = any_contains P xs a in any_of P (xs ++ x ∷ []) k.0 (Contains-append_left xs (x ∷ []) k.0 k.1.0) k.1.1

more : (vars : List Var) (i : ℕ) (y : Var) → i < length vars → y ≡ get_or vars i y → take (i + 1) vars ≡ take i vars ++ y ∷ []
more vars i y l e = take_more vars i y l ∙ ap (λ z. take i vars ++ z ∷ []) (sym e)

-- the number is above one more
above_kept : (low : ℕ) (vars : List Var) (i : ℕ) (y : Var) → i < length vars → y ≡ get_or vars i y → (n : ℕ) → IsAbove low (take i vars) n → y.name < n → IsAbove low (take (i + 1) vars) n
above_kept low vars i y l e n a below =
    subst (λ l. IsAbove low l n) (sym (more vars i y l e))
    (record { from = a.from; small = a.small; below = All-push (λ y. y.name < n) (take i vars) y a.below below; just = keep a.just })
  where
    keep : (n ≡ low) ⊎ Any (λ y. n ≡ y.name + 1) (take i vars) → (n ≡ low) ⊎ Any (λ y. n ≡ y.name + 1) (take i vars ++ y ∷ [])
    keep (inl q) = inl q
    keep (inr q) = inr (any_old (λ y. n ≡ y.name + 1) (take i vars) y q)

-- it is raised just above one
above_raised : (low : ℕ) (vars : List Var) (i : ℕ) (y : Var) → i < length vars → y ≡ get_or vars i y → y.name < NEXT_FRESH → (n : ℕ) → IsAbove low (take i vars) n → n ≤ y.name → IsAbove low (take (i + 1) vars) (y.name + 1)
above_raised low vars i y l e small n a over =
    subst (λ l. IsAbove low l (y.name + 1)) (sym (more vars i y l e))
    (
    let from = a.from in
    record {
      from = omega (arith, from, over);
      small = omega (arith, small);
      below = All-push (λ z. z.name < y.name + 1) (take i vars) y (All-weaker (λ z. z.name < n) (λ z. z.name < y.name + 1) (λ z q. omega (arith, q, over)) (take i vars) a.below) (omega arith);
      just = inr (Any-push (λ z. y.name + 1 ≡ z.name + 1) (take i vars) y refl);
    }
    )

-- the number is raised where it has to be
pub above_at : (low : ℕ) (vars : List Var) (i : ℕ) (e : Var) → i < length vars → (get_or vars i e).name < NEXT_FRESH → (n m : ℕ) → IsAbove low (take i vars) n → m ≡ max n ((get_or vars i e).name + 1) → IsAbove low (take (i + 1) vars) m
above_at low vars i e l small n m a is = go (cases_lt (get_or vars i e).name n)
  where
    here : get_or vars i e ≡ get_or vars i (get_or vars i e)
    here = get_or_default vars i e (get_or vars i e) l

    go : ((get_or vars i e).name < n) ⊎ (n ≤ (get_or vars i e).name) → IsAbove low (take (i + 1) vars) m
    go (inl k) = subst (IsAbove low (take (i + 1) vars)) (omega (arith, is, k)) (above_kept low vars i (get_or vars i e) l here n a k)
    go (inr k) = subst (IsAbove low (take (i + 1) vars)) (omega (arith, is, k)) (above_raised low vars i (get_or vars i e) l here small n a k)

-- substitutions

pub above_all_none : (first : ℕ) → first ≤ NEXT_FRESH → IsAboveAll first [] first
above_all_none first l = record { from = omega arith; small = l; below = All-nil (λ s. AreBelow first (variables_of_terms s)); just = inl refl }

pub above_all_more : (first : ℕ) (list : List Bindings) (i : ℕ) (s : Bindings) → i < length list → s ≡ get_or list i s → (n m : ℕ) → IsAboveAll first (take i list) n → IsAbove n (variables_of_terms s) m → IsAboveAll first (take (i + 1) list) m
above_all_more first list i s l e n m a b =
    subst (λ l. IsAboveAll first l m) (sym (take_more list i s l ∙ ap (λ z. take i list ++ z ∷ []) (sym e)))
    (
    let from = a.from in let up = b.from in
    record {
      from = omega (arith, from, up);
      small = b.small;
      below = All-push (λ s. AreBelow m (variables_of_terms s)) (take i list) s
          (All-weaker (λ s. AreBelow n (variables_of_terms s)) (λ s. AreBelow m (variables_of_terms s)) (λ s q. All-weaker (λ y. y.name < n) (λ y. y.name < m) (λ y r. omega (arith, r, up)) (variables_of_terms s) q) (take i list) a.below)
          b.below;
      just = elim b.just [
        | inl same ↦ elim a.just [
          | inl q ↦ inl (same ∙ q)
          | inr q ↦ inr (any_old (λ s. Any (λ y. m ≡ y.name + 1) (variables_of_terms s)) (take i list) s (subst (λ k. Any (λ s. Any (λ y. k ≡ y.name + 1) (variables_of_terms s)) (take i list)) (sym same) q))
        ]
        | inr q ↦ inr (Any-push (λ s. Any (λ y. m ≡ y.name + 1) (variables_of_terms s)) (take i list) s q)
      ];
    }
    )
