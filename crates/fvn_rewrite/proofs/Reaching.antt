-- Sequences with one step more.
use Rattle.std.proofs.Common.{ℕ, ◌+◌}
use Rattle.fvn_terms.specs.declared.declarations.Declarations.{Declarations}
use Rattle.fvn_terms.specs.Theory.{Equations}
use Rattle.fvn_terms.specs.Laws.{RewritingIsLawful}
use Rattle.fvn_terms.proofs.Equal.{BEqual-refl}
use Rattle.fvn_forms.specs.Flat.{FlatTerm, plain}
use Rattle.fvn_flat.specs.Fits.{Fits}
use Rattle.fvn_rewrite_laws.specs.Normalised.{IsReached}
use Rattle.fvn_rewrite.specs.inner.Walking.{IsNext}

module _ (d : Declarations) (equations : Equations) where
  -- a form reaches itself
  pub reached_itself : (t : FlatTerm) → Fits d t → IsReached d equations 0 t t
  reached_itself t h = record { sequence = BEqual-refl d (plain t); fits = h }

  -- one step more
  pub reached_more : RewritingIsLawful → (k : ℕ) (t u v : FlatTerm) → IsReached d equations k t u → IsNext d equations u v → IsReached d equations (k + 1) t v
  reached_more laws k t u v r s = record {
    sequence = (laws d equations).joined k 1 (plain t) (plain u) (plain v) r.sequence (plain v, (s.steps, BEqual-refl d (plain v)));
    fits = s.fits;
  }
