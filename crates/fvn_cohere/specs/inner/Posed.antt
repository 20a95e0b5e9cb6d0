-- What a search is asked, and what holds of each way to choose what is left.
use Rattle.std.specs.Prelude.{◌≡◌, Bool}
use Rattle.fvn_terms.specs.declared.plain.Var.{Var}
use Rattle.fvn_terms.specs.Plain.{term}
use Rattle.fvn_terms.specs.Signature.{IsTerm}
use Rattle.fvn_rewrite_laws.specs.declared.shapes.Shape.{Shape}
use Rattle.fvn_rewrite_laws.specs.Identities.{identities}
use Rattle.fvn_cohere.specs.declared.searching.Search.{Search}
use Rattle.fvn_cohere.specs.declared.outlooks.PartialChoice.{PartialChoice}
use Rattle.fvn_cohere.specs.inner.Searching.{shapes_by, is_met}
use Rattle.fvn_cohere.specs.inner.Outlooks.{Fills, Offers}

-- whether a choice is what the search seeks
abbrev pub is_sought : Search → (Var → Shape) → Bool
is_sought s = is_met s.sig.now s.sought s.identities.now (term s.left.now) (term s.right.now)

-- the sides are terms, and each variable has shapes for which it may stand
pub record IsPosed (s : Search) : Type 0 where
  pub identities_are : s.identities.now ≡ identities s.sig.now
  pub left_term : IsTerm s.sig.now (term s.left.now)
  pub right_term : IsTerm s.sig.now (term s.right.now)
  pub offers : Offers s.sig.now s.unchosen.now

-- what is said of each choice for all variables
abbrev pub ForEachFilled : PartialChoice → ((Var → Shape) → Type 0) → Type 0
ForEachFilled p P = (filled : Var → Shape) →
    Fills p.sig.now p.unchosen.now (shapes_by p.chosen.now) filled → P filled
