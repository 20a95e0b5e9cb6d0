-- Left sides that become a variable or an identity when some, perhaps none, of their variables are identities.
use Rattle.std.specs.Prelude.{◌≡◌}
use Rattle.fvn_terms.specs.declared.plain.Var.{Var}
use Rattle.fvn_terms.specs.declared.plain.OpId.{OpId}
use Rattle.fvn_terms.specs.declared.declarations.Declarations.{Declarations}
use Rattle.fvn_terms.specs.Term.{Term}
use Rattle.fvn_terms.specs.Substitution.{Substitution, apply}
use Rattle.fvn_forms.specs.Flat.{FlatTerm, fvar, fconstant}
use Rattle.fvn_forms.specs.Canon.{canon}
use Rattle.fvn_flat.specs.Rules.{IsIdentity, IsIdentityChoice}

module _ (d : Declarations) where
  -- l is an identity instance of the term: some, perhaps none, of its variables replaced by identities, and then without identities
  pub record IsIdentityInstanceOf (t : Term) (l : FlatTerm) : Type 0 where
    pub by : Substitution
    pub choice : IsIdentityChoice d t by
    pub is : l ≡ canon d (apply by t)

  -- an identity instance of the term is a variable
  abbrev pub CollapsesToVariable : Term → Type 0
  CollapsesToVariable t = (x : Var) × IsIdentityInstanceOf t (fvar x)

  -- an identity instance of the term is an identity
  abbrev pub CollapsesToIdentity : Term → Type 0
  CollapsesToIdentity t = (e : OpId) × IsIdentity d e × IsIdentityInstanceOf t (fconstant e)
