-- Terms that are equal modulo the axioms have one value, under weights that fit.
use Rattle.std.proofs.Common.{◌≡◌, ◌+◌, ◌*◌, ℕ, refl, sym, ap, ◌∙◌, inl, inr, arith}
use Rattle.fvn_terms.specs.declared.plain.Var.{Var}
use Rattle.fvn_terms.specs.declared.plain.OpId.{OpId}
use Rattle.fvn_terms.specs.declared.declarations.Declarations.{Declarations}
use Rattle.fvn_terms.specs.Term.{Term, Terms}
use Rattle.fvn_terms.specs.Places.{AtOnePlace, AmongOnePlace, here, inside, first, later, stop, step}
use Rattle.fvn_terms.specs.Equality.{two, constant, IsAxiom, swap, shift, right_identity, left_identity, IsAxiomEitherWay, BEqual}
use Rattle.fvn_weights.specs.Values.{Linear, value, value_from, Fits}

module _ (d : Declarations) (w : Linear) (fit : (f : OpId) → Fits d w f) (at : Var → ℕ) where
  -- what an operator with coefficients of one makes of two arguments
  plain_two : (f : OpId) (t u : Term) → w.coefficient f 0 ≡ 1 → w.coefficient f 1 ≡ 1 → value w at (two f t u) ≡ w.constant f + (value w at t + value w at u)
  plain_two f t u a b =
      ap (λ n. w.constant f + (n * value w at t + (w.coefficient f 1 * value w at u + 0))) a
      ∙ ap (λ n. w.constant f + (1 * value w at t + (n * value w at u + 0))) b
      ∙ omega arith

  swapped : (f : OpId) (t u : Term) → w.coefficient f 0 ≡ w.coefficient f 1 → value w at (two f t u) ≡ value w at (two f u t)
  swapped f t u e =
      ap (λ n. w.constant f + (n * value w at t + (w.coefficient f 1 * value w at u + 0))) e
      ∙ exchanged (w.constant f) (w.coefficient f 1 * value w at t) (w.coefficient f 1 * value w at u)
      ∙ ap (λ n. w.constant f + (n * value w at u + (w.coefficient f 1 * value w at t + 0))) (sym e)
    where
      exchanged : (c a b : ℕ) → c + (a + (b + 0)) ≡ c + (b + (a + 0))
      exchanged c a b = omega arith

  shifted : (f : OpId) (t u v : Term) → w.coefficient f 0 ≡ 1 → w.coefficient f 1 ≡ 1 → value w at (two f (two f t u) v) ≡ value w at (two f t (two f u v))
  shifted f t u v a b =
      let outer = plain_two f (two f t u) v a b in
      let inner = plain_two f t u a b in
      let other = plain_two f t (two f u v) a b in
      let last = plain_two f u v a b in
      omega arith

  right_gone : (f e : OpId) (t : Term) → w.coefficient f 0 ≡ 1 → w.coefficient f 1 ≡ 1 → w.constant f ≡ 0 → w.constant e ≡ 0 → value w at (two f t (constant e)) ≡ value w at t
  right_gone f e t a b c z =
      let is = plain_two f t (constant e) a b in
      let nothing : value w at (constant e) ≡ w.constant e + 0 = refl in
      omega arith

  left_gone : (f e : OpId) (t : Term) → w.coefficient f 0 ≡ 1 → w.coefficient f 1 ≡ 1 → w.constant f ≡ 0 → w.constant e ≡ 0 → value w at (two f (constant e) t) ≡ value w at t
  left_gone f e t a b c z =
      let is = plain_two f (constant e) t a b in
      let nothing : value w at (constant e) ≡ w.constant e + 0 = refl in
      omega arith

  by_axiom : (t u : Term) → IsAxiom d t u → value w at t ≡ value w at u
  by_axiom _ _ (swap {f} {t} {u} c) = swapped f t u ((fit f).alike c)
  by_axiom _ _ (shift {f} {t} {u} {v} a) = let o = (fit f).ones a in shifted f t u v o.0 o.1
  by_axiom _ _ (right_identity {f} {e} {t} is k h) = let n = (fit f).neutral e is in right_gone f e t n.0 n.1.0 n.1.1.0 n.1.1.1
  by_axiom _ _ (left_identity {f} {e} {t} is k h) = let n = (fit f).neutral e is in left_gone f e t n.0 n.1.0 n.1.1.0 n.1.1.1

  either_way : (t u : Term) → IsAxiomEitherWay d t u → value w at t ≡ value w at u
  either_way t u (inl a) = by_axiom t u a
  either_way t u (inr a) = sym (by_axiom u t a)

  mutual
    at_place : {t u : Term} → AtOnePlace (IsAxiomEitherWay d) t u → value w at t ≡ value w at u
    at_place (here {t} {u} r) = either_way t u r
    at_place (inside {f} {ts} {us} p) = ap (λ n. w.constant f + n) (among_places f 0 p)

    among_places : {ts us : Terms} (f : OpId) (i : ℕ) → AmongOnePlace (IsAxiomEitherWay d) ts us → value_from w at f i ts ≡ value_from w at f i us
    among_places f i (first {t} {u} {ts} p) = ap (λ n. w.coefficient f i * n + value_from w at f (i + 1) ts) (at_place p)
    among_places f i (later {t} {ts} {us} p) = ap (λ n. w.coefficient f i * value w at t + n) (among_places f (i + 1) p)

  -- equal modulo the axioms, of one value
  pub equal_values : (t u : Term) → BEqual d t u → value w at t ≡ value w at u
  equal_values t u stop = refl
  equal_values t u (step r p) = at_place r ∙ equal_values _ u p
