-- What comes of forms whose normal forms are sought from the inside out, modulo axioms.
use Rattle.std.specs.Prelude.{ℕ, List}
use Rattle.fvn_terms.specs.declared.plain.OpId.{OpId}
use Rattle.fvn_terms.specs.declared.declarations.Declarations.{Declarations}
use Rattle.fvn_terms.specs.Theory.{Equations}
use Rattle.fvn_forms.specs.Flat.{FlatTerm}
use Rattle.fvn_flat.specs.Fits.{AllFit, Takes, plain_over}
use Rattle.fvn_rewrite.specs.declared.inside.ReachedAll.{ReachedAll}
use Rattle.fvn_rewrite.specs.inner.Making.{LeadsTo}

module _ (d : Declarations) (equations : Equations) where
  -- as many steps as are used up lead from each operator that takes the forms to it over those that are reached, which fit;
  -- it takes these too
  pub record AreReachedFrom (ts : List FlatTerm) (before : ℕ) (all : ReachedAll) : Type 0 where
    pub leads : (f : OpId) → Takes d f ts →
        LeadsTo d equations (plain_over d f ts) before (plain_over d f all.forms.items) all.left
    pub takes : (f : OpId) → Takes d f ts → Takes d f all.forms.items
    pub fit : AllFit d all.forms.items
