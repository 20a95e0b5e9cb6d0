-- What tests of axioms tell of heads and theories.
use Rattle.std.proofs.Common.{◌≡◌, true, false, refl, Some, None}
use Rattle.fvn_terms.specs.declared.plain.OpId.{OpId}
use Rattle.fvn_terms.specs.declared.declarations.Axioms.{Axioms}
use Rattle.fvn_terms.specs.declared.declarations.Axioms.TheVariants.{Free as NoAxioms, Comm, AssocComm, AssocCommId}
use Rattle.fvn_terms.specs.Equality.{is_sum, is_free}
use Rattle.fvn_purify.specs.Theories.{theory_by}
use Rattle.fvn_purify.specs.Heads.{head_by}
use Rattle.fvn_purify.specs.declared.classes.Head.TheVariants.{Free, Pair, Sum}

module _ (f : OpId) where
  -- the head of what an operator heads
  pub sum_head : (a : Axioms) → is_sum a ≡ true → Sum f ≡ head_by a f
  sum_head NoAxioms s = cc
  sum_head Comm s = cc
  sum_head AssocComm s = refl
  sum_head (AssocCommId e) s = refl

  pub free_head : (a : Axioms) → is_free a ≡ true → Free ≡ head_by a f
  free_head NoAxioms s = refl
  free_head Comm s = cc
  free_head AssocComm s = cc
  free_head (AssocCommId e) s = cc

  pub pair_head : (a : Axioms) → is_sum a ≡ false → is_free a ≡ false → Pair f ≡ head_by a f
  pair_head NoAxioms s n = cc
  pair_head Comm s n = refl
  pair_head AssocComm s n = cc
  pair_head (AssocCommId e) s n = cc

  -- its theory
  pub free_theory : (a : Axioms) → is_free a ≡ true → None ≡ theory_by a f
  free_theory NoAxioms s = refl
  free_theory Comm s = cc
  free_theory AssocComm s = cc
  free_theory (AssocCommId e) s = cc

  pub own_theory : (a : Axioms) → is_free a ≡ false → Some f ≡ theory_by a f
  own_theory NoAxioms s = cc
  own_theory Comm s = refl
  own_theory AssocComm s = refl
  own_theory (AssocCommId e) s = refl
