-- Equality modulo the axioms.
-- G. E. Peterson and M. E. Stickel, Complete sets of reductions for some equational theories, 1981.
use Rattle.std.specs.Prelude.{◌≡◌, ◌⊎◌, Bool, true, false, Option, Some, None}
use Rattle.fvn_terms.specs.declared.plain.OpId.{OpId}
use Rattle.fvn_terms.specs.declared.plain.SortId.{SortId}
use Rattle.fvn_terms.specs.declared.declarations.Axioms.{Axioms}
use Rattle.fvn_terms.specs.declared.declarations.Axioms.TheVariants.{Free, Comm, AssocComm, AssocCommId}
use Rattle.fvn_terms.specs.declared.declarations.Declarations.{Declarations}
use Rattle.fvn_terms.specs.Term.{Term, app, none, more}
use Rattle.fvn_terms.specs.Signature.{axioms, HasKind}
use Rattle.fvn_terms.specs.Places.{AtOnePlace, Leads}

-- f(t, u)
abbrev pub two : OpId → Term → Term → Term
two f t u = app f (more t (more u none))

-- the constant e
abbrev pub constant : OpId → Term
constant e = app e none

-- operators with these axioms may exchange their arguments
abbrev pub IsCommutative : Axioms → Type 0
IsCommutative Free = ⊥
IsCommutative Comm = Unit {0}
IsCommutative AssocComm = Unit {0}
IsCommutative (AssocCommId e) = Unit {0}

-- operators with these axioms may move their brackets
abbrev pub IsAssociative : Axioms → Type 0
IsAssociative Free = ⊥
IsAssociative Comm = ⊥
IsAssociative AssocComm = Unit {0}
IsAssociative (AssocCommId e) = Unit {0}

-- the identity of an operator with these axioms
abbrev pub identity : Axioms → Option OpId
identity Free = None
identity Comm = None
identity AssocComm = None
identity (AssocCommId e) = Some e

-- whether these axioms let an operator exchange its arguments
abbrev pub is_commutative : Axioms → Bool
is_commutative Free = false
is_commutative Comm = true
is_commutative AssocComm = true
is_commutative (AssocCommId e) = true

-- whether these axioms let an operator move its brackets: terms under it are sums
abbrev pub is_sum : Axioms → Bool
is_sum Free = false
is_sum Comm = false
is_sum AssocComm = true
is_sum (AssocCommId e) = true

-- whether these are no axioms
abbrev pub is_free : Axioms → Bool
is_free Free = true
is_free Comm = false
is_free AssocComm = false
is_free (AssocCommId e) = false

module _ (d : Declarations) where
  -- The second term is an instance of the right side of an axiom whose left side has the first as its instance.
  -- An identity is put beside a term only where the operator takes terms of its kind.
  pub data IsAxiom : Term → Term → Type 0 where
    swap : {f : OpId} {t u : Term} → IsCommutative (axioms d f) → IsAxiom (two f t u) (two f u t)
    shift : {f : OpId} {t u v : Term} → IsAssociative (axioms d f) → IsAxiom (two f (two f t u) v) (two f t (two f u v))
    right_identity : {f e : OpId} {t : Term} {k : SortId} → identity (axioms d f) ≡ Some e → HasKind d t k →
        HasKind d (two f t (constant e)) k → IsAxiom (two f t (constant e)) t
    left_identity : {f e : OpId} {t : Term} {k : SortId} → identity (axioms d f) ≡ Some e → HasKind d t k →
        HasKind d (two f (constant e) t) k → IsAxiom (two f (constant e) t) t

  -- an axiom in either direction
  abbrev pub IsAxiomEitherWay : Term → Term → Type 0
  IsAxiomEitherWay t u = IsAxiom t u ⊎ IsAxiom u t

  -- one axiom, used at one place of a term
  abbrev pub AxiomStep : Term → Term → Type 0
  AxiomStep = AtOnePlace IsAxiomEitherWay

  -- equal modulo the axioms
  abbrev pub BEqual : Term → Term → Type 0
  BEqual = Leads AxiomStep
