-- Settings with terms that are to stay irreducible.
use Rattle.std.specs.Prelude.{List}
use Rattle.fvn_terms.specs.declared.declarations.Declarations.{Declarations}
use Rattle.fvn_terms.specs.Term.{Term}
use Rattle.fvn_forms.specs.Flat.{FlatTerm}
use Rattle.fvn_exploring.specs.Setting.{Setting}

-- the setting with these fixed terms
abbrev pub fixing : List Term → Setting → Setting
fixing terms g = record {
  declarations = g.declarations;
  equations = g.equations;
  fixed = terms;
  bounds = g.bounds;
  unifiers = g.unifiers;
}

-- terms, and the declarations in which they fit
pub record ListedTerms : Type 0 where
  pub declarations : Declarations
  pub terms : List FlatTerm
