-- The rules of a module: identity instances of its equations, and their extensions.
use Rattle.std.specs.Prelude.{◌≡◌, ◌⊎◌, Contains, Some}
use Rattle.fvn_terms.specs.declared.plain.Var.{Var}
use Rattle.fvn_terms.specs.declared.plain.OpId.{OpId}
use Rattle.fvn_terms.specs.declared.declarations.Declarations.{Declarations}
use Rattle.fvn_terms.specs.Term.{Term, Terms, var, app}
use Rattle.fvn_terms.specs.Substitution.{Substitution, apply, Occurs}
use Rattle.fvn_terms.specs.Signature.{axioms, kind, HasKind}
use Rattle.fvn_terms.specs.Equality.{two, constant, IsAssociative, identity as identity_of}
use Rattle.fvn_terms.specs.Sorts.{HasSort}
use Rattle.fvn_terms.specs.Theory.{Equations}
use Rattle.fvn_forms.specs.Flat.{FlatTerm, plain}
use Rattle.fvn_forms.specs.Canon.{canon}

module _ (d : Declarations) where
  -- e is the identity of some operator
  abbrev pub IsIdentity : OpId → Type 0
  IsIdentity e = (f : OpId) × (identity_of (axioms d f) ≡ Some e)

  -- x goes to an identity whose sort is at or below its own
  pub record GoesToIdentity (s : Substitution) (x : Var) : Type 0 where
    pub operator : OpId
    pub identity : IsIdentity operator
    pub sorted : HasSort d (constant operator) x.sort
    pub is : s x ≡ constant operator

  -- some variables of the term go to identities, and all others stay
  abbrev pub IsIdentityChoice : Term → Substitution → Type 0
  IsIdentityChoice t s = (x : Var) → (s x ≡ var x) ⊎ (Occurs x t × GoesToIdentity s x)

  -- l and r are the sides of an equation, some variables of its left side replaced by identities, and then without identities
  pub record IsIdentityInstance (equation : Term × Term) (l r : FlatTerm) : Type 0 where
    pub by : Substitution
    pub choice : IsIdentityChoice equation.0 by
    pub left : l ≡ canon d (apply by equation.0)
    pub right : r ≡ canon d (apply by equation.1)

  -- l and r are f(l', z) and f(r', z) of an identity instance whose left side an associative f heads; z is a new variable of f's kind
  pub record IsExtension (equation : Term × Term) (l r : FlatTerm) : Type 0 where
    pub inner_left : FlatTerm
    pub inner_right : FlatTerm
    pub instance_of : IsIdentityInstance equation inner_left inner_right
    pub operator : OpId
    pub arguments : Terms
    pub head : plain inner_left ≡ app operator arguments
    pub associative : IsAssociative (axioms d operator)
    pub beside : Var
    pub new_left : Occurs beside equation.0 → ⊥
    pub new_right : Occurs beside equation.1 → ⊥
    pub is_kind : kind d beside.sort ≡ beside.sort
    pub of_kind : HasKind d (plain inner_left) beside.sort
    pub left : l ≡ canon d (two operator (plain inner_left) (var beside))
    pub right : r ≡ canon d (two operator (plain inner_right) (var beside))

  -- l = r is a rule made from the equation
  abbrev pub IsRuleFrom : Term × Term → FlatTerm → FlatTerm → Type 0
  IsRuleFrom equation l r = IsIdentityInstance equation l r ⊎ IsExtension equation l r

  -- l = r is a rule of the module with these equations
  abbrev pub IsRuleOf : Equations → FlatTerm → FlatTerm → Type 0
  IsRuleOf equations l r = (equation : Term × Term) × Contains equations equation × IsRuleFrom equation l r
