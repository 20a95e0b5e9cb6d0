-- What a term stands for is no smaller than its variables' values.
use Rattle.std.proofs.Common.{◌≡◌, ℕ, zero, suc, ◌+◌, ◌≤◌, false, List, [], ◌∷◌, ◌++◌, length, refl, sym, ap, ◌∙◌, subst, arith, inl, inr}
use Rattle.std.specs.List.{Contains}
use Rattle.std.proofs.Math.Nat.{le_trans, le_refl}
use Rattle.std.proofs.lemmas.List.{length-append}
use Rattle.fvn_base.proofs.Membership.{contains_here, contains_later, contains_cases, contains_none}
use Rattle.fvn_terms.specs.declared.plain.Var.{Var}
use Rattle.fvn_terms.specs.declared.plain.OpId.{OpId}
use Rattle.fvn_terms.specs.declared.plain.SortId.{SortId}
use Rattle.fvn_terms.specs.declared.declarations.Axioms.{Axioms}
use Rattle.fvn_terms.specs.declared.declarations.Axioms.TheVariants.{Free, Comm, AssocComm, AssocCommId}
use Rattle.fvn_terms.specs.declared.declarations.Declarations.{Declarations}
use Rattle.fvn_terms.specs.Term.{Term, Terms, var, app, none, more, nodes, nodes_all}
use Rattle.fvn_terms.specs.Substitution.{Substitution, apply, Occurs, OccursAmong}
use Rattle.fvn_terms.specs.Signature.{axioms, HasKind, HaveKinds}
use Rattle.fvn_terms.specs.Equality.{IsAssociative, two}
use Rattle.fvn_forms.specs.Flat.{FlatTerm, fapp, fpack, plain, symbols}
use Rattle.fvn_forms.specs.InOrder.{sort}
use Rattle.fvn_forms.specs.Canon.{parts, all_parts, sum, build, eval, eval_all, canon}
use Rattle.fvn_forms.specs.Settled.{Settled, SettledValues}
use Rattle.fvn_forms.proofs.Sizes.{all_symbols, some_nodes, all_symbols-sort, symbols_unjoined, symbols_sum}
use Rattle.fvn_forms.proofs.Sums.{funpack-fpack, sum_parts}
use Rattle.fvn_forms.proofs.Build.{parts_none, build_sum}
use Rattle.fvn_forms.proofs.Eval.{eval_settled, canon_settled, eval_apply}
use Rattle.fvn_rewrite_normal_forms.proofs.Searching.{AreWithin, IsTermWithin}
use Rattle.fvn_rewrite_normal_forms.proofs.Kinding.{operator_known}

all_symbols-append : (l m : List FlatTerm) → all_symbols (l ++ m) ≡ all_symbols l + all_symbols m
all_symbols-append [] m = omega arith
all_symbols-append (t ∷ l) m = let e = all_symbols-append l m in omega arith

symbols_of_member : (l : List FlatTerm) (u : FlatTerm) → Contains l u → symbols u ≤ all_symbols l
symbols_of_member [] u h = absurd (contains_none u h)
symbols_of_member (t ∷ l) u h = elim (contains_cases t l u h) as (λ _. symbols u ≤ all_symbols (t ∷ l)) [
  | inl e ↦ let p : symbols t ≡ symbols u = ap symbols e in omega arith
  | inr i ↦ let p = symbols_of_member l u i in omega arith
]

module _ (d : Declarations) where
  module _ (f : OpId) where
    -- a form has as many summands as it brings to a list, or fewer, and as many symbols
    parts_of_member : (l : List FlatTerm) (u : FlatTerm) → Contains l u → (all_symbols (parts d f u) ≤ all_symbols (all_parts d f l)) × (length (parts d f u) ≤ length (all_parts d f l))
    parts_of_member [] u h = absurd (contains_none u h)
    parts_of_member (t ∷ l) u h =
        let e = all_symbols-append (parts d f t) (all_parts d f l) in
        let n = length-append (parts d f t) (all_parts d f l) in
        elim (contains_cases t l u h) as (λ _. (all_symbols (parts d f u) ≤ all_symbols (all_parts d f (t ∷ l))) × (length (parts d f u) ≤ length (all_parts d f (t ∷ l)))) [
          | inl q ↦ let a : all_symbols (parts d f t) ≡ all_symbols (parts d f u) = ap (λ v. all_symbols (parts d f v)) q in let b : length (parts d f t) ≡ length (parts d f u) = ap (λ v. length (parts d f v)) q in (omega arith, omega arith)
          | inr i ↦ let p = parts_of_member l u i in (omega (arith, p.0), omega (arith, p.1))
        ]

    smaller_sum : (l m : List FlatTerm) → 1 ≤ length l → all_symbols l ≤ all_symbols m → length l ≤ length m → symbols (sum d f l) ≤ symbols (sum d f m)
    smaller_sum [] m h a b = absurd (omega arith)
    smaller_sum (t ∷ l) [] h a b = absurd (omega arith)
    smaller_sum (t ∷ l) (u ∷ m) h a b = let p = symbols_sum d f t l in let q = symbols_sum d f u m in omega arith

    member_of_sum : (l : List FlatTerm) (u : FlatTerm) → Settled d u → Contains l u → symbols u ≤ symbols (sum d f (all_parts d f l))
    member_of_sum l u settled h = go (parts d f u) refl where
      some : 1 ≤ length (parts d f u) → symbols u ≤ symbols (sum d f (all_parts d f l))
      some n = let w = parts_of_member l u h in subst (λ t. symbols t ≤ symbols (sum d f (all_parts d f l))) (sum_parts d f u settled) (smaller_sum (parts d f u) (all_parts d f l) n w.0 w.1)

      go : (ps : List FlatTerm) → parts d f u ≡ ps → symbols u ≤ symbols (sum d f (all_parts d f l))
      go [] e = let w = parts_none d f u settled e in subst (λ t. symbols t ≤ symbols (sum d f (all_parts d f l))) (sym w.2) (some_nodes (plain (sum d f (all_parts d f l))))
      go (p ∷ ps) e = some (subst (λ m. 1 ≤ length m) (sym e) (omega arith))

    -- what an operator builds has no fewer symbols than each form that it is built of
    pub member_of_build : (l : List FlatTerm) (u : FlatTerm) → Settled d u → Contains l u → symbols u ≤ symbols (build d f l)
    member_of_build [] u settled h = absurd (contains_none u h)
    member_of_build (t ∷ ts) u settled h = go (axioms d f) refl where
      unjoined : (m : List FlatTerm) → all_symbols m ≡ all_symbols (t ∷ ts) → symbols u ≤ symbols (fapp f false (fpack m))
      unjoined m e =
          let a : symbols (fapp f false (fpack m)) ≡ all_symbols m + 1 = symbols_unjoined f (fpack m) ∙ ap (λ n. all_symbols n + 1) (funpack-fpack m) in
          let b = symbols_of_member (t ∷ ts) u h in
          omega arith

      summed : IsAssociative (axioms d f) → symbols u ≤ symbols (build d f (t ∷ ts))
      summed assoc = subst (λ v. symbols u ≤ symbols v) (sym (build_sum d f assoc t ts)) (member_of_sum (t ∷ ts) u settled h)

      go : (a : Axioms) → axioms d f ≡ a → symbols u ≤ symbols (build d f (t ∷ ts))
      go Free e = rw e (unjoined (t ∷ ts) refl)
      go Comm e = rw e (unjoined (sort (t ∷ ts)) (all_symbols-sort (t ∷ ts)))
      go AssocComm e = summed (rw e tt)
      go (AssocCommId o) e = summed (rw e tt)

  module _ (s : Var → FlatTerm) (settled : SettledValues d s) (x : Var) where
    mutual
      value_bound : (t : Term) → Occurs x t → symbols (s x) ≤ symbols (eval d s t)
      value_bound (var y) e = subst (λ z. symbols (s x) ≤ symbols (s z)) e (le_refl (symbols (s x)))
      value_bound (app f ts) o =
          let w = value_among ts o in
          le_trans w.2 (member_of_build f (eval_all d s ts) w.0 w.1.1 w.1.0)

      value_among : (ts : Terms) → OccursAmong x ts → (u : FlatTerm) × (Contains (eval_all d s ts) u × Settled d u) × (symbols (s x) ≤ symbols u)
      value_among none o = absurd o
      value_among (more t ts) (inl o) = (eval d s t, (contains_here (eval d s t) (eval_all d s ts), eval_settled d s settled t), value_bound t o)
      value_among (more t ts) (inr o) = let w = value_among ts o in (w.0, (contains_later (eval d s t) (eval_all d s ts) w.0 w.1.0, w.1.1), w.2)

  -- the values of a term's variables have no more symbols than its instance
  pub value_is_smaller : (c : Substitution) (t : Term) (x : Var) → Occurs x t → symbols (canon d (c x)) ≤ symbols (canon d (apply c t))
  value_is_smaller c t x o = subst (λ u. symbols (canon d (c x)) ≤ symbols u) (sym (eval_apply d (λ y. canon d (var y)) c t)) (value_bound (λ y. canon d (c y)) (λ y. canon_settled d (c y)) x t o)

  -- and so have two terms that an operator joins
  pub first_is_smaller : (f : OpId) (t u : Term) → symbols (canon d t) ≤ symbols (canon d (two f t u))
  first_is_smaller f t u = member_of_build f (canon d t ∷ canon d u ∷ []) (canon d t) (canon_settled d t) (contains_here (canon d t) (canon d u ∷ []))

  pub second_is_smaller : (f : OpId) (t u : Term) → symbols (canon d u) ≤ symbols (canon d (two f t u))
  second_is_smaller f t u = member_of_build f (canon d t ∷ canon d u ∷ []) (canon d u) (canon_settled d u) (contains_later (canon d t) (canon d u ∷ []) (canon d u) (contains_here (canon d u) []))

  -- a well-kinded term of these variables is found among those as deep and wide as it has nodes
  module _ (vars : List Var) where
    mutual
      pub term_within : (n : ℕ) (t : Term) (k : SortId) → HasKind d t k → nodes t ≤ n → ((x : Var) → Occurs x t → Contains vars x) → IsTermWithin vars (length d.ops) n t
      term_within zero t k h small known = absurd (let p = some_nodes t in omega arith)
      term_within (suc n) (var x) k h small known = known x refl
      term_within (suc n) (app f ts) k h small known = (operator_known d f h.rank h.listed, terms_within n n ts _ h.args (omega arith) (omega arith) known)

      terms_within : (n m : ℕ) (ts : Terms) (ks : List SortId) → HaveKinds d ts ks → nodes_all ts ≤ n → nodes_all ts ≤ m → ((x : Var) → OccursAmong x ts → Contains vars x) → AreWithin (IsTermWithin vars (length d.ops) n) m ts
      terms_within n m none ks h small narrow known = tt
      terms_within n m (more t ts) [] h small narrow known = absurd h
      terms_within n zero (more t ts) (k ∷ ks) h small narrow known = absurd (let p = some_nodes t in omega arith)
      terms_within n (suc m) (more t ts) (k ∷ ks) h small narrow known =
          let p = some_nodes t in
          (term_within n t k h.0 (omega arith) (λ x o. known x (inl o)), terms_within n m ts ks h.1 (omega arith) (omega arith) (λ x o. known x (inr o)))
