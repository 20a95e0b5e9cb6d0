-- The test of the order says what the order is.
use Rattle.std.proofs.Common.{◌≡◌, ℕ, zero, suc, ◌+◌, ◌<◌, true, List, [], ◌∷◌, length, refl, sym, ap, subst, ◌∙◌, ◌⊎◌, inl, inr, arith, ◌≤◌}
use Rattle.std.specs.List.{Contains}
use Rattle.std.specs.Prelude.{slice_index_or}
use Rattle.std.proofs.lemmas.Bool.{and_parts, and_from, or_cases, or_left, or_right, eqb-true, eq-eqb, cases_lt}
use Rattle.std.proofs.lemmas.List.{get_or_past}
use Rattle.std.proofs.lemmas.List.Elements.{Contains-append_left, Contains-append_right, Contains-append_cases}
use Rattle.fvn_terms.specs.declared.plain.SortId.{SortId}
use Rattle.fvn_terms.specs.declared.declarations.Declarations.{Declarations}
use Rattle.fvn_terms.specs.Signature.{kind, AtOrBelow, same, up, to_kind}
use Rattle.fvn_forms.specs.SortOrder.{sort_number, same_sort, reaches, kind_steps, order_steps, at_or_below}
use Rattle.fvn_base.proofs.Membership.{contains_here, contains_later, contains_cases, contains_none}
use Rattle.fvn_forms.proofs.SortOrder.{AtOrBelow-trans, AtOrBelow-one, AtOrBelow-from_same}

pub same_sort-true : (s q : SortId) → same_sort s q ≡ true → s ≡ q
same_sort-true s q e = ap sort_number (eqb-true s.0 q.0 e)

pub same_sort-self : (s : SortId) → same_sort s s ≡ true
same_sort-self s = eq-eqb s.0 s.0 refl

-- the pairs lead from each sort to itself, along each pair, and on
pub reaches-self : (ps : List (SortId × SortId)) (s : SortId) → reaches ps s s ≡ true
unfolding reaches
reaches-self [] s = same_sort-self s
reaches-self (p ∷ ps) s = or_left (reaches ps s s) _ (reaches-self ps s)

along : (p : SortId × SortId) (ps : List (SortId × SortId)) (s q : SortId) → reaches ps s p.0 ≡ true → reaches ps p.1 q ≡ true → reaches (p ∷ ps) s q ≡ true
unfolding reaches
along p ps s q h k = or_right (reaches ps s q) _ (and_from (reaches ps s p.0) (reaches ps p.1 q) h k)

without : (p : SortId × SortId) (ps : List (SortId × SortId)) (s q : SortId) → reaches ps s q ≡ true → reaches (p ∷ ps) s q ≡ true
unfolding reaches
without p ps s q h = or_left (reaches ps s q) _ h

pub reaches-cases : (p : SortId × SortId) (ps : List (SortId × SortId)) (s q : SortId) → reaches (p ∷ ps) s q ≡ true → (reaches ps s q ≡ true) ⊎ ((reaches ps s p.0 ≡ true) × (reaches ps p.1 q ≡ true))
unfolding reaches
reaches-cases p ps s q h = elim (or_cases (reaches ps s q) _ h) [ inl e ↦ inl e | inr e ↦ inr (and_parts (reaches ps s p.0) (reaches ps p.1 q) e) ]

pub reaches-trans : (ps : List (SortId × SortId)) (s q r : SortId) → reaches ps s q ≡ true → reaches ps q r ≡ true → reaches ps s r ≡ true
unfolding reaches
reaches-trans [] s q r h k = eq-eqb s.0 r.0 (eqb-true s.0 q.0 h ∙ eqb-true q.0 r.0 k)
reaches-trans (p ∷ ps) s q r h k = go (reaches-cases p ps s q h) (reaches-cases p ps q r k) (reaches-trans ps) where
  Trans : Type 0
  Trans = (s q r : SortId) → reaches ps s q ≡ true → reaches ps q r ≡ true → reaches ps s r ≡ true

  go : (reaches ps s q ≡ true) ⊎ ((reaches ps s p.0 ≡ true) × (reaches ps p.1 q ≡ true)) → (reaches ps q r ≡ true) ⊎ ((reaches ps q p.0 ≡ true) × (reaches ps p.1 r ≡ true)) → ((s q r : SortId) → reaches ps s q ≡ true → reaches ps q r ≡ true → reaches ps s r ≡ true) → reaches (p ∷ ps) s r ≡ true
  go (inl a) (inl b) t = without p ps s r (t s q r a b)
  go (inl a) (inr b) t = along p ps s r (t s q p.0 a b.0) b.1
  go (inr a) (inl b) t = along p ps s r a.0 (t p.1 q r a.1 b)
  go (inr a) (inr b) t = along p ps s r a.0 b.1

pub reaches-one : (ps : List (SortId × SortId)) (s q : SortId) → Contains ps (s, q) → reaches ps s q ≡ true
reaches-one [] s q h = absurd (contains_none (s, q) h)
reaches-one (p ∷ ps) s q h = elim (contains_cases p ps (s, q) h) [
  | inl e ↦ along p ps s q (subst (λ z. reaches ps s z.0 ≡ true) (sym e) (reaches-self ps s)) (subst (λ z. reaches ps z.1 q ≡ true) (sym e) (reaches-self ps q))
  | inr i ↦ without p ps s q (reaches-one ps s q i)
]

-- a preorder that holds along each pair holds where the pairs lead
pub reaches-sound : (R : SortId → SortId → Type 0) → ((s : SortId) → R s s) → ((s q r : SortId) → R s q → R q r → R s r) → (ps : List (SortId × SortId)) → ((s q : SortId) → Contains ps (s, q) → R s q) → (s q : SortId) → reaches ps s q ≡ true → R s q
unfolding reaches
reaches-sound R self trans [] each s q h = subst (R s) (same_sort-true s q h) (self s)
reaches-sound R self trans (p ∷ ps) each s q h =
    let rest : (s q : SortId) → reaches ps s q ≡ true → R s q = reaches-sound R self trans ps (λ s q i. each s q (contains_later p ps (s, q) i)) in
    elim (reaches-cases p ps s q h) [ inl e ↦ rest s q e | inr e ↦ trans s p.0 q (rest s p.0 e.0) (trans p.0 p.1 q (each p.0 p.1 (contains_here p ps)) (rest p.1 q e.1)) ]

-- the steps to kinds
kind_step : (n : ℕ) (ks : List SortId) (i : ℕ) (d : SortId) → i < length ks → Contains (kind_steps n ks) (sort_number (n + i), slice_index_or ks i d)
kind_step n [] i d l = absurd (omega arith)
kind_step n (k ∷ ks) zero d l =
    let e : n ≡ n + 0 = omega arith in
    subst (λ m. Contains (kind_steps n (k ∷ ks)) (sort_number m, k)) e (contains_here (sort_number n, k) (kind_steps (n + 1) ks))
kind_step n (k ∷ ks) (suc i) d l =
    let e : (n + 1) + i ≡ n + suc i = omega arith in
    contains_later (sort_number n, k) (kind_steps (n + 1) ks) _ (subst (λ m. Contains (kind_steps (n + 1) ks) (sort_number m, slice_index_or ks i d)) e (kind_step (n + 1) ks i d (omega arith)))

step_kind : (n : ℕ) (ks : List SortId) (p : SortId × SortId) → Contains (kind_steps n ks) p → (i : ℕ) × ((p.0.0 ≡ n + i) × ((d : SortId) → slice_index_or ks i d ≡ p.1))
step_kind n [] p h = absurd (contains_none p h)
step_kind n (k ∷ ks) p h = elim (contains_cases (sort_number n, k) (kind_steps (n + 1) ks) p h) [
  | inl e ↦ (0, (ap (λ z. z.0.0) (sym e) ∙ omega arith, λ d. ap (λ z. z.1) e))
  | inr i ↦ let r = step_kind (n + 1) ks p i in let f : p.0.0 ≡ (n + 1) + r.0 = r.1.0 in (suc r.0, (omega arith, r.1.1))
]

module _ (d : Declarations) where
  pub at_or_below-true : (s q : SortId) → at_or_below d s q ≡ true → AtOrBelow d s q
  unfolding at_or_below
  at_or_below-true s q h = reaches-sound (AtOrBelow d) (λ s. same) (λ s q r. AtOrBelow-trans d) (order_steps d) each s q h where
    each : (s q : SortId) → Contains (order_steps d) (s, q) → AtOrBelow d s q
    each s q i = elim (Contains-append_cases d.below (kind_steps 0 d.kinds) (s, q) i) [
      | inl b ↦ AtOrBelow-one d b
      | inr k ↦ let r = step_kind 0 d.kinds (s, q) k in let e : s.0 ≡ r.0 = r.1.0 ∙ omega arith in
          to_kind (AtOrBelow-from_same d (ap (λ n. slice_index_or d.kinds n s) e ∙ r.1.1 s))
    ]

  pub at_or_below-complete : {s q : SortId} → AtOrBelow d s q → at_or_below d s q ≡ true
  unfolding at_or_below
  at_or_below-complete (same {s}) = reaches-self (order_steps d) s
  at_or_below-complete (up {s} {q} {r} c h) = reaches-trans (order_steps d) s q r (reaches-one (order_steps d) s q (Contains-append_left d.below (kind_steps 0 d.kinds) (s, q) c)) (at_or_below-complete h)
  at_or_below-complete (to_kind {s} {r} h) = reaches-trans (order_steps d) s (kind d s) r (go (cases_lt s.0 (length d.kinds))) (at_or_below-complete h) where
    go : (s.0 < length d.kinds) ⊎ (length d.kinds ≤ s.0) → reaches (order_steps d) s (kind d s) ≡ true
    go (inl l) =
        let e : 0 + s.0 ≡ s.0 = omega arith in
        let step : Contains (kind_steps 0 d.kinds) (s, kind d s) = subst (λ n. Contains (kind_steps 0 d.kinds) (sort_number n, kind d s)) e (kind_step 0 d.kinds s.0 s l) in
        reaches-one (order_steps d) s (kind d s) (Contains-append_right d.below (kind_steps 0 d.kinds) (s, kind d s) step)
    go (inr l) = subst (λ q. reaches (order_steps d) s q ≡ true) (sym (get_or_past d.kinds s.0 s l)) (reaches-self (order_steps d) s)
