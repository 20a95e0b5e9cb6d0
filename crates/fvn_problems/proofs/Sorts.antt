-- The least sort of a term, by those of its arguments.
use Rattle.std.proofs.Common.{◌≡◌, ◌≤◌, Bool, true, false, List, [], ◌∷◌, ◌++◌, map, length, Option, Some, None, refl, sym, ap, ◌∙◌, append_assoc, arith}
use Rattle.std.specs.Prelude.{nat_eq, if◌then◌else◌}
use Rattle.std.specs.List.{AllByRecursion}
use Rattle.std.proofs.lemmas.Bool.{eqb-true, eq-eqb}
use Rattle.fvn_terms.specs.declared.plain.OpId.{OpId}
use Rattle.fvn_terms.specs.declared.plain.SortId.{SortId}
use Rattle.fvn_terms.specs.declared.plain.Plain.{Plain}
use Rattle.fvn_terms.specs.declared.declarations.Axioms.{Axioms}
use Rattle.fvn_terms.specs.declared.declarations.Declarations.{Declarations}
use Rattle.fvn_terms.specs.Term.{Term, app, none, more}
use Rattle.fvn_terms.specs.Plain.{term, terms}
use Rattle.fvn_terms.specs.Signature.{axioms, IsTerm}
use Rattle.fvn_terms.specs.Equality.{two, IsAssociative, identity, is_sum}
use Rattle.fvn_forms.specs.Flat.{fvar}
use Rattle.fvn_forms.specs.Canon.{as_constant, eval_all, canon}
use Rattle.fvn_forms.specs.Ranks.{result}
use Rattle.fvn_forms.specs.Good.{IsGood}
use Rattle.fvn_forms.specs.LeastSort.{least_sort}
use Rattle.fvn_forms.proofs.Build.{build_unjoined_some}
use Rattle.fvn_forms.proofs.KindsKept.{both_of_kind}
use Rattle.fvn_forms.proofs.LeastSortOf.{IsIdentityOf, canon_left_identity, canon_right_identity, least_sort_of_app, canon_joined}
use Rattle.fvn_terms.proofs.AxiomWords.{sums_associate, associative_sums, identity_associates}
use Rattle.fvn_syntax.specs.Resolve.{nested, applied}
use Rattle.fvn_problems.specs.declared.sorting.Sorted.{Sorted}
use Rattle.fvn_problems.specs.inner.Sorting.{sorted_of, of_sort, same_constant, sum_of_two, sum_of, sum_of_all, over}

each : {A : Type 0} (P : A → Type 0) → ((a : A) → P a) → (l : List A) → AllByRecursion P l
each P h [] = tt
each P h (a ∷ l) = (h a, each P h l)

no_identity : (a : Axioms) (e : OpId) → (IsAssociative a → ⊥) → identity a ≡ Some e → ⊥
no_identity a e n h = n (identity_associates a e h)

other_associates_not : (a : Axioms) → is_sum a ≡ false → IsAssociative a → ⊥
other_associates_not a h associates = (let q : true ≡ false = sym (associative_sums a associates) ∙ h in cc)

same_op_is : (e g : OpId) → nat_eq e.0 g.0 ≡ true → e ≡ g
same_op_is e g h = ap (λ n. record { 0 = n }) (eqb-true e.0 g.0 h)

-- two operators that are there are one exactly where the test tells so
same_true : (o g : Option OpId) → same_constant o g ≡ true → (e : OpId) × (o ≡ Some e) × (g ≡ Some e)
same_true None g h = cc
same_true (Some e) None h = cc
same_true (Some e) (Some g) h = (e, refl, ap Some (sym (same_op_is e g h)))

same_false : (o g : Option OpId) → same_constant o g ≡ false → (e : OpId) × (o ≡ Some e) × (g ≡ Some e) → ⊥
same_false o g h w =
    let t : nat_eq w.0.0 w.0.0 ≡ true = eq-eqb w.0.0 w.0.0 refl in
    let f : same_constant (Some w.0) (Some w.0) ≡ false = sym (ap (λ x. same_constant x g) w.1 ∙ ap (same_constant (Some w.0)) w.2) ∙ h in
    let q : true ≡ false = sym t ∙ f in
    cc

sorts_of_arguments : (d : Declarations) (ts : List Plain) → map (least_sort d) (eval_all d fvar (terms ts)) ≡ map (λ a. a.sort) (map (λ (t : Plain). sorted_of d (term t)) ts)
sorts_of_arguments d [] = refl
sorts_of_arguments d (t ∷ ts) = ap (λ l. least_sort d (canon d (term t)) ∷ l) (sorts_of_arguments d ts)

-- the last two terms of a sum are one of its terms
module _ (d : Declarations) (f : OpId) where
  sum_of-two : (v : Sorted) (vs : List Sorted) (a b : Sorted) → sum_of d f v (vs ++ (a ∷ b ∷ [])) ≡ sum_of d f v (vs ++ (sum_of_two d f a b ∷ []))
  sum_of-two v [] a b = refl
  sum_of-two v (u ∷ us) a b = ap (sum_of_two d f v) (sum_of-two u us a b)

  sum_of_all-two : (vs : List Sorted) (a b : Sorted) → sum_of_all d f (vs ++ (a ∷ b ∷ [])) ≡ sum_of_all d f (vs ++ (sum_of_two d f a b ∷ []))
  sum_of_all-two [] a b = refl
  sum_of_all-two (v ∷ vs) a b = sum_of-two v vs a b

  pub sum_of_all-last : (vs : List Sorted) (a b : Sorted) → sum_of_all d f ((vs ++ (a ∷ [])) ++ (b ∷ [])) ≡ sum_of_all d f (vs ++ (sum_of_two d f a b ∷ []))
  sum_of_all-last vs a b = ap (sum_of_all d f) (append_assoc vs (a ∷ []) (b ∷ [])) ∙ sum_of_all-two vs a b

module _ (d : Declarations) (good : IsGood d) (f : OpId) where
  abbrev sorted : SortId → Option OpId → Sorted
  sorted s o = record { sort = s; constant = o }

  -- a sum of two terms
  two_sorted : (t u : Term) → IsAssociative (axioms d f) → IsTerm d (two f t u) → sum_of_two d f (sorted_of d t) (sorted_of d u) ≡ sorted_of d (two f t u)
  two_sorted t u assoc h = go (same_constant (identity (axioms d f)) (as_constant (canon d t))) (same_constant (identity (axioms d f)) (as_constant (canon d u))) refl refl where
    go : (a b : Bool) → same_constant (identity (axioms d f)) (as_constant (canon d t)) ≡ a → same_constant (identity (axioms d f)) (as_constant (canon d u)) ≡ b →
        (if a then sorted_of d u else if b then sorted_of d t else of_sort (result d f (least_sort d (canon d t) ∷ least_sort d (canon d u) ∷ []))) ≡ sorted_of d (two f t u)
    go true b p q = ap (λ v. sorted (least_sort d v) (as_constant v)) (sym (canon_left_identity d f t u (same_true (identity (axioms d f)) (as_constant (canon d t)) p)))
    go false true p q = ap (λ v. sorted (least_sort d v) (as_constant v)) (sym (canon_right_identity d f t u (same_true (identity (axioms d f)) (as_constant (canon d u)) q)))
    go false false p q =
        let nt = same_false (identity (axioms d f)) (as_constant (canon d t)) p in
        let nu = same_false (identity (axioms d f)) (as_constant (canon d u)) q in
        let s = least_sort_of_app d good f (more t (more u none)) h.0 h.1 (nt, (nu, tt)) in
        let o = canon_joined d f assoc t u nt nu in
        ap (λ x. sorted x None) (sym s) ∙ ap (sorted (least_sort d (canon d (two f t u)))) (sym o)

  sum_sorted : (t : Plain) (ts : List Plain) → IsAssociative (axioms d f) → IsTerm d (term (nested f t ts)) →
      sum_of d f (sorted_of d (term t)) (map (λ (u : Plain). sorted_of d (term u)) ts) ≡ sorted_of d (term (nested f t ts))
  sum_sorted t [] assoc h = refl
  sum_sorted t (u ∷ us) assoc h =
      let parts = both_of_kind d good.fits f assoc (term t) (term (nested f u us)) h.0 h.1 in
      ap (sum_of_two d f (sorted_of d (term t))) (sum_sorted u us assoc (h.0, parts.1)) ∙ two_sorted (term t) (term (nested f u us)) assoc h

  plain_sorted : (t : Plain) (ts : List Plain) → (IsAssociative (axioms d f) → ⊥) → IsTerm d (app f (terms (t ∷ ts))) →
      of_sort (result d f (map (λ a. a.sort) (map (λ (u : Plain). sorted_of d (term u)) (t ∷ ts)))) ≡ sorted_of d (app f (terms (t ∷ ts)))
  plain_sorted t ts free h =
      let s = least_sort_of_app d good f (terms (t ∷ ts)) h.0 h.1
      (each (λ v. IsIdentityOf d f v → ⊥) (λ v w. no_identity (axioms d f) w.0 free w.1) (eval_all d fvar (terms (t ∷ ts)))) in
      let o = build_unjoined_some d f free (canon d (term t)) (eval_all d fvar (terms ts)) in
      ap (λ x. sorted (result d f x) None) (sym (sorts_of_arguments d (t ∷ ts)))
      ∙ ap (λ x. sorted x None) (sym s)
      ∙ ap (sorted (least_sort d (canon d (app f (terms (t ∷ ts)))))) (sym o)

  -- an operator over one or more arguments
  pub over_sorted : (ts : List Plain) → 1 ≤ length ts → IsTerm d (term (applied (is_sum (axioms d f)) f ts)) →
      over d f (map (λ (u : Plain). sorted_of d (term u)) ts) ≡ sorted_of d (term (applied (is_sum (axioms d f)) f ts))
  over_sorted [] some h = absurd (omega arith)
  over_sorted (t ∷ ts) some h = go (is_sum (axioms d f)) refl h where
    go : (b : Bool) → is_sum (axioms d f) ≡ b → IsTerm d (term (applied b f (t ∷ ts))) →
        (if b then sum_of_all d f (map (λ (u : Plain). sorted_of d (term u)) (t ∷ ts)) else of_sort (result d f (map (λ a. a.sort) (map (λ (u : Plain). sorted_of d (term u)) (t ∷ ts)))))
        ≡ sorted_of d (term (applied b f (t ∷ ts)))
    go true e k = sum_sorted t ts (sums_associate (axioms d f) e) k
    go false e k = plain_sorted t ts (other_associates_not (axioms d f) e) k
