-- What a walk over the places of a form finds.
use Rattle.std.proofs.Common.{◌≡◌, Option, Some, None, subst}
use Rattle.fvn_terms.specs.declared.declarations.Declarations.{Declarations}
use Rattle.fvn_terms.specs.Theory.{Equations}
use Rattle.fvn_forms.specs.Flat.{FlatTerm, plain}
use Rattle.fvn_forms.proofs.Eval.{canon_plain}
use Rattle.fvn_flat.specs.Fits.{Fits}
use Rattle.fvn_rewrite_coherence.specs.PlacedSteps.{StepsAtPlace}
use Rattle.fvn_rewrite_coherence.specs.Laws.{CoherenceLaws}
use Rattle.fvn_rewrite_laws.specs.Normalised.{IsNormalForm}
use Rattle.fvn_rewrite.specs.inner.Walking.{WalkAs}

module _ (d : Declarations) (equations : Equations) (t : FlatTerm) where
  -- a form without redexes is irreducible, since each step of it is one at a place
  pub found_none : (o : Option FlatTerm) → CoherenceLaws d equations → Fits d t → WalkAs d equations t o → o ≡ None → IsNormalForm d equations t
  found_none None laws fits h e = λ u r. h u (subst (λ v. StepsAtPlace d equations v u) (canon_plain d t fits.flat) (laws.placed (plain t) u fits.kinded r))
  found_none (Some u) laws fits h e = cc
