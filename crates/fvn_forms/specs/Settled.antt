-- Which flat forms are flat in a signature.
-- G. E. Peterson and M. E. Stickel, Complete sets of reductions for some equational theories, 1981.
use Rattle.std.specs.Prelude.{◌≡◌, ◌≤◌, Bool, true, false, List, [], ◌∷◌, length}
use Rattle.std.specs.List.{AllByRecursion}
use Rattle.fvn_terms.specs.declared.plain.Var.{Var}
use Rattle.fvn_terms.specs.declared.plain.OpId.{OpId}
use Rattle.fvn_terms.specs.declared.declarations.Axioms.{Axioms}
use Rattle.fvn_terms.specs.declared.declarations.Axioms.TheVariants.{Free, Comm, AssocComm, AssocCommId}
use Rattle.fvn_terms.specs.declared.declarations.Declarations.{Declarations}
use Rattle.fvn_terms.specs.Signature.{axioms}
use Rattle.fvn_terms.specs.Equality.{IsAssociative}
use Rattle.fvn_forms.specs.Flat.{FlatTerm, FlatTerms, fvar, fapp, fnone, fmore, funpack, plain}
use Rattle.fvn_forms.specs.InOrder.{InOrder}
use Rattle.fvn_forms.specs.Canon.{parts, canon}

module _ (d : Declarations) where
  -- one summand under f: neither a sum of f nor f's identity
  abbrev pub IsPiece : OpId → FlatTerm → Type 0
  IsPiece f t = parts d f t ≡ t ∷ []

  -- what an operator with these axioms stands over where it is no joined sum; an associative one over nothing, as a constant
  abbrev pub FitsUnjoined : Axioms → List FlatTerm → Type 0
  FitsUnjoined Free ts = Unit {0}
  FitsUnjoined Comm ts = InOrder ts
  FitsUnjoined AssocComm ts = ts ≡ []
  FitsUnjoined (AssocCommId e) ts = ts ≡ []

  -- a joined sum: of an associative operator, over two or more summands, in order
  pub record IsJoined (f : OpId) (ts : List FlatTerm) : Type 0 where
    pub associative : IsAssociative (axioms d f)
    pub pieces : AllByRecursion (IsPiece f) ts
    pub two_or_more : 2 ≤ length ts
    pub in_order : InOrder ts

  -- what an operator may stand over, joined or not
  abbrev pub FitsOver : OpId → Bool → List FlatTerm → Type 0
  FitsOver f true ts = IsJoined f ts
  FitsOver f false ts = FitsUnjoined (axioms d f) ts

  -- all summands are gathered, in order, without identities, at each place
  abbrev mutual
    pub Settled : FlatTerm → Type 0
    Settled (fvar x) = Unit {0}
    Settled (fapp f joined ts) = FitsOver f joined (funpack ts) × SettledAll ts

    -- each flat form of a list is settled
    pub SettledAll : FlatTerms → Type 0
    SettledAll fnone = Unit {0}
    SettledAll (fmore t ts) = Settled t × SettledAll ts

  -- each variable stands for a settled form
  abbrev pub SettledValues : (Var → FlatTerm) → Type 0
  SettledValues s = (x : Var) → Settled (s x)

  -- the flat form of its plain term is the form itself
  abbrev pub FlatIn : FlatTerm → Type 0
  FlatIn t = canon d (plain t) ≡ t
