-- What axioms are, by what is asked of them.
use Rattle.std.proofs.Common.{◌≡◌, true, false, Option, Some, None, refl, sym, ◌∙◌}
use Rattle.std.specs.Prelude.{is_some}
use Rattle.fvn_terms.specs.declared.plain.OpId.{OpId}
use Rattle.fvn_terms.specs.declared.declarations.Axioms.{Axioms}
use Rattle.fvn_terms.specs.declared.declarations.Axioms.TheVariants.{Free, Comm, AssocComm, AssocCommId}
use Rattle.fvn_terms.specs.declared.declarations.Declarations.{Declarations}
use Rattle.fvn_terms.specs.Signature.{axioms}
use Rattle.fvn_terms.specs.Equality.{identity, is_sum, is_commutative}

pub none_if : {A : Type 0} (o : Option A) → is_some o ≡ false → o ≡ None
none_if None e = refl
none_if (Some x) e = cc

pub free_if : (a : Axioms) → is_sum a ≡ false → is_commutative a ≡ false → a ≡ Free
free_if Free s c = refl
free_if Comm s c = cc
free_if AssocComm s c = cc
free_if (AssocCommId e) s c = cc

pub commutative_if : (a : Axioms) → is_sum a ≡ false → is_commutative a ≡ true → a ≡ Comm
commutative_if Free s c = cc
commutative_if Comm s c = refl
commutative_if AssocComm s c = cc
commutative_if (AssocCommId e) s c = cc

pub sum_without : (a : Axioms) → is_sum a ≡ true → identity a ≡ None → a ≡ AssocComm
sum_without Free s n = cc
sum_without Comm s n = cc
sum_without AssocComm s n = refl
sum_without (AssocCommId e) s n = cc

-- the axioms of an operator, as they were asked for
module _ (d : Declarations) (f : OpId) (a : Axioms) (is : a ≡ axioms d f) where
  pub free_at : is_sum a ≡ false → is_commutative a ≡ false → axioms d f ≡ Free
  free_at s c = sym is ∙ free_if a s c

  pub commutative_at : is_sum a ≡ false → is_commutative a ≡ true → axioms d f ≡ Comm
  commutative_at s c = sym is ∙ commutative_if a s c
