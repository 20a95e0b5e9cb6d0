-- Equality modulo the axioms keeps weights that identities do not have.
use Rattle.std.proofs.Common.{◌≡◌, ◌+◌, Some, refl, sym, ap, ◌∙◌, inl, inr, arith}
use Rattle.fvn_terms.specs.declared.plain.OpId.{OpId}
use Rattle.fvn_terms.specs.declared.declarations.Declarations.{Declarations}
use Rattle.fvn_terms.specs.Term.{Term, Terms, app, none}
use Rattle.fvn_terms.specs.Signature.{axioms}
use Rattle.fvn_terms.specs.Places.{AtOnePlace, AmongOnePlace, here, inside, first, later, stop, step}
use Rattle.fvn_terms.specs.Equality.{two, identity, IsAxiom, swap, shift, right_identity, left_identity, IsAxiomEitherWay, BEqual}
use Rattle.fvn_cover_counts.specs.Weights.{Weights, weight, weight_all, AreKept}

module _ (d : Declarations) (w : Weights) (kept : AreKept d w) where
  swapped : (f : OpId) (t u : Term) → weight w (two f t u) ≡ weight w (two f u t)
  swapped f t u = omega arith

  shifted : (f : OpId) (t u v : Term) → weight w (two f (two f t u) v) ≡ weight w (two f t (two f u v))
  shifted f t u v = omega arith

  right_gone : (f e : OpId) (t : Term) → identity (axioms d f) ≡ Some e → weight w (two f t (app e none)) ≡ weight w t
  right_gone f e t is = let k = kept f e is in let a = k.0 in let b = k.1 in omega arith

  left_gone : (f e : OpId) (t : Term) → identity (axioms d f) ≡ Some e → weight w (two f (app e none) t) ≡ weight w t
  left_gone f e t is = let k = kept f e is in let a = k.0 in let b = k.1 in omega arith

  by_axiom : (t u : Term) → IsAxiom d t u → weight w t ≡ weight w u
  by_axiom _ _ (swap {f} {t} {u} c) = swapped f t u
  by_axiom _ _ (shift {f} {t} {u} {v} a) = shifted f t u v
  by_axiom _ _ (right_identity {f} {e} {t} is k h) = right_gone f e t is
  by_axiom _ _ (left_identity {f} {e} {t} is k h) = left_gone f e t is

  either_way : (t u : Term) → IsAxiomEitherWay d t u → weight w t ≡ weight w u
  either_way t u (inl a) = by_axiom t u a
  either_way t u (inr a) = sym (by_axiom u t a)

  mutual
    at_place : {t u : Term} → AtOnePlace (IsAxiomEitherWay d) t u → weight w t ≡ weight w u
    at_place (here {t} {u} r) = either_way t u r
    at_place (inside {f} (first {t} {u} {ts} p)) = ap (λ n. w.operator f + (n + weight_all w ts)) (at_place p)
    at_place (inside {f} (later {t} {ts} {us} p)) = ap (λ n. w.operator f + (weight w t + n)) (among_places p)

    among_places : {ts us : Terms} → AmongOnePlace (IsAxiomEitherWay d) ts us → weight_all w ts ≡ weight_all w us
    among_places (first {t} {u} {ts} p) = ap (λ n. n + weight_all w ts) (at_place p)
    among_places (later {t} {ts} {us} p) = ap (λ n. weight w t + n) (among_places p)

  -- terms that are equal modulo the axioms weigh the same
  pub equal_weights : (t u : Term) → BEqual d t u → weight w t ≡ weight w u
  equal_weights t u stop = refl
  equal_weights t u (step r p) = at_place r ∙ equal_weights _ u p
