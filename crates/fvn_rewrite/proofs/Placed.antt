-- Redexes at places of a form: at the form itself, or at a place of an argument.
use Rattle.std.proofs.Common.{◌≡◌, Option, Some, None, All}
use Rattle.std.proofs.lemmas.List.Elements.{All-nil, All-head, All-tail}
use Rattle.fvn_terms.specs.declared.declarations.Declarations.{Declarations}
use Rattle.fvn_terms.specs.Theory.{Equations}
use Rattle.fvn_terms.proofs.Equal.{BEqual-refl}
use Rattle.fvn_forms.specs.Flat.{FlatTerm, FlatTerms, fvar, fapp, funpack, plain}
use Rattle.fvn_flat.specs.Forms.{head_of, args_of}
use Rattle.fvn_flat.specs.FlatPlaces.{IsReplaced, IsReplacedAmong, here, inside, first, later}
use Rattle.fvn_rewrite_coherence.specs.PlacedSteps.{IsRedex}
use Rattle.fvn_rewrite.specs.inner.Walking.{IsNoRedex, HasNoRedex, RootAs, WalkAs}

module _ (d : Declarations) (equations : Equations) where
  none_among : (at given : FlatTerm) (ts us : FlatTerms) → IsReplacedAmong at given ts us → IsRedex d equations at (plain given) → All (HasNoRedex d equations) (funpack ts) → ⊥
  none_among at given ts us (first {t} {w} {ts = rest} r) redex none =
      All-head (HasNoRedex d equations) t (funpack rest) none (plain w) record { at = at; given = given; redex = redex; replaced = w; replaces = r; makes = BEqual-refl d (plain w) }
  none_among at given ts us (later {t} {ts = rest} {us = others} r) redex none = none_among at given rest others r redex (All-tail (HasNoRedex d equations) t (funpack rest) none)

  none_at : (at given t w : FlatTerm) → IsReplaced at given t w → IsRedex d equations at (plain given) → IsNoRedex d equations t → All (HasNoRedex d equations) (args_of t) → ⊥
  none_at at given t w here redex root none = root (plain given) redex
  none_at at given t w (inside {f} {joined} {ts} {us} r) redex root none = none_among at given ts us r redex none

  -- no redex stands at a place of a form that is none and whose arguments have none
  pub has_no_redex : (t : FlatTerm) → IsNoRedex d equations t → All (HasNoRedex d equations) (args_of t) → HasNoRedex d equations t
  has_no_redex t root none u s = none_at s.at s.given t s.replaced s.replaces s.redex root none

  -- a form without a head is a variable, and so no redex
  pub headless_has_no_redex : (t : FlatTerm) → head_of t ≡ None → HasNoRedex d equations t
  headless_has_no_redex (fvar x) e = has_no_redex (fvar x) (λ u r. let i = r.heads_form in cc) (All-nil (HasNoRedex d equations))
  headless_has_no_redex (fapp f joined ts) e = cc

  -- what is found at the root, where the arguments have no redex, is what is found at all places
  pub walk_as : (t : FlatTerm) (o : Option FlatTerm) → RootAs d equations t o → All (HasNoRedex d equations) (args_of t) → WalkAs d equations t o
  walk_as t None h none = has_no_redex t h none
  walk_as t (Some u) h none = h
