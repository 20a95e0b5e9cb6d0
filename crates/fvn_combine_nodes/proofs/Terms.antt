-- The test whether two terms are one, and what is listed once.
use Rattle.std.proofs.Common.{◌≡◌, ◌≢◌, ℕ, zero, suc, ◌<◌, true, not, List, [], ◌∷◌, length, get_or, refl, ap, ◌∙◌, inl, inr, arith, All, AllPairs, Contains}
use Rattle.std.specs.Prelude.{if◌then◌else◌}
use Rattle.std.specs.List.{filter}
use Rattle.std.proofs.lemmas.Bool.{and_parts, and_from, cases_Bool, false_from_ne_true, not_from_false}
use Rattle.std.proofs.lemmas.List.Elements.{All-head, All-tail, All-cons, All-filter, All-contains, All-contains_itself}
use Rattle.fvn_base.proofs.Membership.{contains_cases, contains_none, contains_filter}
use Rattle.fvn_base.proofs.Pigeonhole.{AllPairs-tail}
use Rattle.fvn_terms.specs.Term.{Term, Terms, var, app, none, more}
use Rattle.fvn_forms.specs.Canon.{same_op}
use Rattle.fvn_forms.proofs.Sums.{same_op_is, same_op_itself}
use Rattle.fvn_flat.specs.Problems.{same_term, same_terms, once}
use Rattle.fvn_flat.proofs.Binding.{same_var_is, same_var_itself}
use Rattle.fvn_combine_nodes.specs.Laws.{place_of}

mutual
  pub same_term_itself : (t : Term) → same_term t t ≡ true
  same_term_itself (var x) = same_var_itself x
  same_term_itself (app f ts) = and_from (same_op f f) (same_terms ts ts) (same_op_itself f) (same_terms_itself ts)

  same_terms_itself : (ts : Terms) → same_terms ts ts ≡ true
  same_terms_itself none = refl
  same_terms_itself (more t ts) = and_from (same_term t t) (same_terms ts ts) (same_term_itself t) (same_terms_itself ts)

mutual
  pub same_term_is : (t u : Term) → same_term t u ≡ true → t ≡ u
  same_term_is (var x) (var y) e = ap var (same_var_is x y e)
  same_term_is (var x) (app g us) e = cc
  same_term_is (app f ts) (var y) e = cc
  same_term_is (app f ts) (app g us) e =
      let p = and_parts (same_op f g) (same_terms ts us) e in
      let a = same_op_is f g p.0 in
      let b = same_terms_is ts us p.1 in
      cc

  same_terms_is : (ts us : Terms) → same_terms ts us ≡ true → ts ≡ us
  same_terms_is none none e = refl
  same_terms_is none (more u us) e = cc
  same_terms_is (more t ts) none e = cc
  same_terms_is (more t ts) (more u us) e =
      let p = and_parts (same_term t u) (same_terms ts us) e in
      let a = same_term_is t u p.0 in
      let b = same_terms_is ts us p.1 in
      cc

-- what is listed stands there once, and nothing else does
pub once_contains : (ts : List Term) (u : Term) → Contains ts u → Contains (once ts) u
once_contains [] u c = absurd (contains_none u c)
once_contains (t ∷ ts) u c = elim (contains_cases t ts u c) [
  | inl e ↦ (0, omega arith, e)
  | inr r ↦ elim (cases_Bool (same_term t u)) [
    | inl s ↦ (0, omega arith, same_term_is t u s)
    | inr n ↦ let k = contains_filter (λ v. not (same_term t v)) (once ts) u (once_contains ts u r) (not_from_false (same_term t u) n) in let l = k.1 in (suc k.0, omega (arith, l), k.2)
  ]
]

pub contains_once : (ts : List Term) (u : Term) → Contains (once ts) u → Contains ts u
contains_once ts u c = All-contains (Contains ts) (once ts) u (all_once (Contains ts) ts (All-contains_itself ts)) c
  where
    all_once : (P : Term → Type 0) (ts : List Term) → All P ts → All P (once ts)
    all_once P [] h = h
    all_once P (t ∷ ts) h = All-cons P t (filter (λ u. not (same_term t u)) (once ts)) (All-head P t ts h) (All-filter (λ u. not (same_term t u)) P (once ts) (all_once P ts (All-tail P t ts h)))

-- a term of a list in which each stands once has its own place
pub own_place : (ts : List Term) → AllPairs ◌≢◌ ts → (i : ℕ) (d : Term) → i < length ts → place_of ts (get_or ts i d) ≡ i
own_place [] h i d l = absurd (omega arith)
own_place (t ∷ ts) h zero d l = ap (λ b. if b then 0 else suc (place_of ts t)) (same_term_itself t)
own_place (t ∷ ts) h (suc i) d l =
    let u = get_or ts i d in
    let other = false_from_ne_true (same_term t u) (λ e. h 0 (suc i) d (omega arith) l (same_term_is t u e)) in
    ap (λ b. if b then 0 else suc (place_of ts u)) other ∙ ap suc (own_place ts (AllPairs-tail ◌≢◌ t ts h) i d (omega arith))
