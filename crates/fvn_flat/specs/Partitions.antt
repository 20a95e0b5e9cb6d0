-- The nodes of a problem, and how they are put into classes.
use Rattle.std.specs.Prelude.{◌≡◌, ◌⊎◌, ℕ, All, Contains, Some}
use Rattle.fvn_terms.specs.declared.plain.OpId.{OpId}
use Rattle.fvn_terms.specs.declared.declarations.Axioms.{Axioms}
use Rattle.fvn_terms.specs.declared.declarations.Axioms.TheVariants.{Free, Comm, AssocComm, AssocCommId}
use Rattle.fvn_terms.specs.declared.declarations.Declarations.{Declarations}
use Rattle.fvn_terms.specs.Term.{Term, Terms, app, none, more}
use Rattle.fvn_terms.specs.Signature.{axioms}
use Rattle.fvn_terms.specs.Equality.{two, constant, BEqual, identity as identity_of}
use Rattle.fvn_terms.specs.Unifiers.{Problem}
use Rattle.fvn_flat.specs.Problems.{subterms_of}

-- an operator with these axioms has no identity
abbrev pub HasNoIdentity : Axioms → Type 0
HasNoIdentity Free = Unit {0}
HasNoIdentity Comm = Unit {0}
HasNoIdentity AssocComm = Unit {0}
HasNoIdentity (AssocCommId e) = ⊥

-- the arguments lie place by place in one class
abbrev pub PlaceByPlace : (Term → ℕ) → Terms → Terms → Type 0
PlaceByPlace class none none = Unit {0}
PlaceByPlace class none (more u us) = ⊥
PlaceByPlace class (more t ts) none = ⊥
PlaceByPlace class (more t ts) (more u us) = (class t ≡ class u) × PlaceByPlace class ts us

module _ (d : Declarations) (problem : Problem) where
  -- f heads a subterm of the problem
  pub record Heads (f : OpId) : Type 0 where
    pub arguments : Terms
    pub listed : Contains (subterms_of problem) (app f arguments)

  -- the term is the identity of an operator that heads a subterm
  pub record IsUnit (t : Term) : Type 0 where
    pub operator : OpId
    pub heads : Heads operator
    pub constant_of : OpId
    pub identity : identity_of (axioms d operator) ≡ Some constant_of
    pub is : t ≡ constant constant_of

  -- a node is a subterm, or the identity of an operator that heads one
  abbrev pub IsNode : Term → Type 0
  IsNode t = Contains (subterms_of problem) t ⊎ IsUnit t

  -- a partition gives each node the number of its class
  pub record IsPartition (class : Term → ℕ) : Type 0 where
    -- both sides of each pair are in one class
    pub sides : All (λ p. class p.0 ≡ class p.1) problem
    -- nodes that are equal modulo the axioms are in one class
    pub equal : (t u : Term) → IsNode t → IsNode u → BEqual d t u → class t ≡ class u
    -- nodes that one operator heads over arguments in one class, place by place, are in one class
    pub congruent : (f : OpId) (ts us : Terms) → IsNode (app f ts) → IsNode (app f us) →
        PlaceByPlace class ts us → class (app f ts) ≡ class (app f us)
    -- two members of a class whose operators have no identity are headed by one operator
    pub one_head : (f g : OpId) (ts us : Terms) → HasNoIdentity (axioms d f) → HasNoIdentity (axioms d g) →
        IsNode (app f ts) → IsNode (app g us) → class (app f ts) ≡ class (app g us) → f ≡ g
    -- where that operator is free, their arguments are in one class place by place
    pub free : (f : OpId) (ts us : Terms) → axioms d f ≡ Free → IsNode (app f ts) → IsNode (app f us) →
        class (app f ts) ≡ class (app f us) → PlaceByPlace class ts us
    -- where it is commutative and not associative, place by place or crosswise
    pub commutative : (f : OpId) (t u v w : Term) → axioms d f ≡ Comm → IsNode (two f t u) →
        IsNode (two f v w) → class (two f t u) ≡ class (two f v w) →
        ((class t ≡ class v) × (class u ≡ class w)) ⊎ ((class t ≡ class w) × (class u ≡ class v))
