-- What equality modulo the axioms asks of the kinds in a signature.
use Rattle.std.specs.Prelude.{◌≡◌, [], ◌∷◌, map, Contains, Some}
use Rattle.fvn_terms.specs.declared.plain.OpId.{OpId}
use Rattle.fvn_terms.specs.declared.plain.SortId.{SortId}
use Rattle.fvn_terms.specs.declared.declarations.Rank.{Rank}
use Rattle.fvn_terms.specs.declared.declarations.Declarations.{Declarations}
use Rattle.fvn_terms.specs.Signature.{kind, declared, axioms, HasKind}
use Rattle.fvn_terms.specs.Equality.{IsCommutative, IsAssociative, constant, identity as identity_of}

module _ (d : Declarations) where
  -- the two ranks have arguments and a result of the same kinds
  abbrev pub HaveOneKind : Rank → Rank → Type 0
  HaveOneKind r q = (map (kind d) r.args ≡ map (kind d) q.args) × (kind d r.result ≡ kind d q.result)

  -- the rank takes two arguments of one kind
  abbrev pub TakesTwoAlike : Rank → Type 0
  TakesTwoAlike r = (k : SortId) × (map (kind d) r.args ≡ k ∷ k ∷ [])

  -- the rank takes two arguments of the kind that it gives
  abbrev pub TakesTwoOfItsKind : Rank → Type 0
  TakesTwoOfItsKind r = map (kind d) r.args ≡ kind d r.result ∷ kind d r.result ∷ []

  -- what equality modulo the axioms asks of a signature
  pub record FitsKinds : Type 0 where
    -- the declarations of an operator agree in their kinds
    pub agree : (f : OpId) (r q : Rank) → Contains (declared d f).ranks r → Contains (declared d f).ranks q → HaveOneKind r q
    -- a commutative operator takes two arguments of one kind
    pub commutative : (f : OpId) (r : Rank) → IsCommutative (axioms d f) → Contains (declared d f).ranks r → TakesTwoAlike r
    -- an associative one takes two arguments of the kind that it gives
    pub associative : (f : OpId) (r : Rank) → IsAssociative (axioms d f) → Contains (declared d f).ranks r → TakesTwoOfItsKind r
    -- an identity is a constant of the operator's kind
    pub identity : (f e : OpId) (r : Rank) → identity_of (axioms d f) ≡ Some e →
        Contains (declared d f).ranks r → HasKind d (constant e) (kind d r.result)
