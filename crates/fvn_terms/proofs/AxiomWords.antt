-- What is asked of the axioms of an operator, as a test and as a fact.
use Rattle.std.proofs.Common.{◌≡◌, true, Some, refl, subst, sym}
use Rattle.fvn_terms.specs.declared.plain.OpId.{OpId}
use Rattle.fvn_terms.specs.declared.declarations.Axioms.{Axioms}
use Rattle.fvn_terms.specs.declared.declarations.Axioms.TheVariants.{Free, Comm, AssocComm, AssocCommId}
use Rattle.fvn_terms.specs.Equality.{identity, is_sum, is_commutative, is_free, IsAssociative, IsCommutative}

-- an operator with these axioms makes sums exactly where it may move its brackets
pub sums_associate : (a : Axioms) → is_sum a ≡ true → IsAssociative a
sums_associate Free h = cc
sums_associate Comm h = cc
sums_associate AssocComm h = tt
sums_associate (AssocCommId e) h = tt

pub associative_sums : (a : Axioms) → IsAssociative a → is_sum a ≡ true
associative_sums Free h = absurd h
associative_sums Comm h = absurd h
associative_sums AssocComm h = refl
associative_sums (AssocCommId e) h = refl

-- and it is tested as commutative exactly where it may exchange its arguments
pub commutative_commutes : (a : Axioms) → is_commutative a ≡ true → IsCommutative a
commutative_commutes Free h = cc
commutative_commutes Comm h = tt
commutative_commutes AssocComm h = tt
commutative_commutes (AssocCommId e) h = tt

pub commutes_commutative : (a : Axioms) → IsCommutative a → is_commutative a ≡ true
commutes_commutative Free h = absurd h
commutes_commutative Comm h = refl
commutes_commutative AssocComm h = refl
commutes_commutative (AssocCommId e) h = refl

-- an associative operator is commutative
pub associative_commutes : (a : Axioms) → IsAssociative a → IsCommutative a
associative_commutes Free h = absurd h
associative_commutes Comm h = absurd h
associative_commutes AssocComm h = tt
associative_commutes (AssocCommId e) h = tt

-- no axioms at all
pub free_is : (a : Axioms) → is_free a ≡ true → a ≡ Free
free_is Free h = refl
free_is Comm h = cc
free_is AssocComm h = cc
free_is (AssocCommId e) h = cc

-- the axioms of an operator that has an identity
pub identity_is : (a : Axioms) (e : OpId) → identity a ≡ Some e → a ≡ AssocCommId e
identity_is Free e p = cc
identity_is Comm e p = cc
identity_is AssocComm e p = cc
identity_is (AssocCommId o) e p = cc

-- an operator with an identity is associative, and commutative
pub identity_associates : (a : Axioms) (e : OpId) → identity a ≡ Some e → IsAssociative a
identity_associates a e p = subst IsAssociative (sym (identity_is a e p)) tt

pub identity_commutes : (a : Axioms) (e : OpId) → identity a ≡ Some e → IsCommutative a
identity_commutes a e p = subst IsCommutative (sym (identity_is a e p)) tt

-- what has no axioms has no identity
pub free_without : (a : Axioms) (e : OpId) → a ≡ Free → identity a ≡ Some e → ⊥
free_without Free e i p = cc
free_without Comm e i p = cc
free_without AssocComm e i p = cc
free_without (AssocCommId o) e i p = cc
