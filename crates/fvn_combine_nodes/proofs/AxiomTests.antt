-- What tests of axioms tell of them.
use Rattle.std.proofs.Common.{◌≡◌, Bool, true, false, refl, sym, ap, ◌∙◌, is_some}
use Rattle.std.specs.Prelude.{◌↔◌, IsTrue, not}
use Rattle.fvn_terms.specs.declared.declarations.Axioms.{Axioms}
use Rattle.fvn_terms.specs.declared.declarations.Axioms.TheVariants.{Free, Comm, AssocComm, AssocCommId}
use Rattle.fvn_terms.specs.Equality.{identity, is_sum, is_commutative, is_free}
use Rattle.fvn_flat.specs.Partitions.{HasNoIdentity}

-- operators with and without identities
pub no_identity : (a : Axioms) → is_some (identity a) ≡ false → HasNoIdentity a
no_identity Free e = tt
no_identity Comm e = tt
no_identity AssocComm e = tt
no_identity (AssocCommId o) e = cc

pub some_identity : (a : Axioms) → is_some (identity a) ≡ true → HasNoIdentity a → ⊥
some_identity Free e n = cc
some_identity Comm e n = cc
some_identity AssocComm e n = cc
some_identity (AssocCommId o) e n = n

pub bare_told : (a : Axioms) (none : Bool) → is_some (identity a) ≡ not none → IsTrue none ↔ HasNoIdentity a
bare_told Free true e = (λ h. tt, λ h. refl)
bare_told Comm true e = (λ h. tt, λ h. refl)
bare_told AssocComm true e = (λ h. tt, λ h. refl)
bare_told (AssocCommId o) false e = (λ h. cc, λ h. absurd h)
bare_told Free false e = cc
bare_told Comm false e = cc
bare_told AssocComm false e = cc
bare_told (AssocCommId o) true e = cc

-- a commutative operator makes no sums
pub commutative_no_sum : (a : Axioms) → is_sum a ≡ true → a ≡ Comm → ⊥
commutative_no_sum a s e = let z : true ≡ false = sym s ∙ ap is_sum e in cc

-- one that makes none has no axioms but commutativity
pub only_commutative : (a : Axioms) → is_sum a ≡ false → is_commutative a ≡ true → a ≡ Comm
only_commutative Free s c = cc
only_commutative Comm s c = refl
only_commutative AssocComm s c = cc
only_commutative (AssocCommId e) s c = cc

pub commutative_from_rest : (a : Axioms) → is_sum a ≡ false → is_free a ≡ false → a ≡ Comm
commutative_from_rest Free s f = cc
commutative_from_rest Comm s f = refl
commutative_from_rest AssocComm s f = cc
commutative_from_rest (AssocCommId e) s f = cc
