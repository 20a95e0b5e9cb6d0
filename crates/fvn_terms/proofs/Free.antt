-- Without axioms, terms that are equal modulo the axioms are equal.
use Rattle.std.proofs.Common.{◌≡◌, inl, inr, subst}
use Rattle.fvn_terms.specs.declared.declarations.Declarations.{Declarations}
use Rattle.fvn_terms.specs.Term.{Term}
use Rattle.fvn_terms.specs.Equality.{IsCommutative, IsAssociative, IsAxiom, IsAxiomEitherWay, BEqual, swap, shift, right_identity, left_identity}
use Rattle.fvn_terms.specs.Laws.{IsFree}
use Rattle.fvn_terms.proofs.Steps.{Leads_nowhere, nowhere}

module _ (d : Declarations) (free : IsFree d) where
  no_axiom : (t u : Term) → IsAxiom d t u → ⊥
  no_axiom _ _ (swap {f} c) = subst IsCommutative (free f) c
  no_axiom _ _ (shift {f} a) = subst IsAssociative (free f) a
  no_axiom _ _ (right_identity {f} e h j) = let g = free f in cc
  no_axiom _ _ (left_identity {f} e h j) = let g = free f in cc

  no_axiom_either_way : (t u : Term) → IsAxiomEitherWay d t u → ⊥
  no_axiom_either_way t u (inl a) = no_axiom t u a
  no_axiom_either_way t u (inr a) = no_axiom u t a

  pub BEqual-free : (t u : Term) → BEqual d t u → t ≡ u
  BEqual-free t u p = Leads_nowhere (λ v w s. nowhere no_axiom_either_way s) p
