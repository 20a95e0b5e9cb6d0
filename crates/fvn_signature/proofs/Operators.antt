-- The kind that the declarations of an operator give.
use Rattle.std.proofs.Common.{◌≡◌, List, [], ◌∷◌, refl, sym, subst}
use Rattle.std.specs.List.{Contains}
use Rattle.fvn_terms.specs.declared.plain.OpId.{OpId}
use Rattle.fvn_terms.specs.declared.declarations.Rank.{Rank}
use Rattle.fvn_terms.specs.declared.declarations.Declarations.{Declarations}
use Rattle.fvn_terms.specs.Signature.{kind, declared}
use Rattle.fvn_forms.specs.Good.{IsGood}
use Rattle.fvn_forms.specs.Ranks.{first_result}
use Rattle.fvn_base.proofs.Membership.{contains_here, contains_none}

module _ (d : Declarations) (good : IsGood d) (f : OpId) where
  first_of : (rs : List Rank) → (declared d f).ranks ≡ rs → (r : Rank) → Contains rs r → first_result d rs ≡ kind d r.result
  first_of [] e r h = absurd (contains_none r h)
  first_of (q ∷ qs) e r h = (good.fits.agree f q r (subst (λ l. Contains l q) (sym e) (contains_here q qs)) (subst (λ l. Contains l r) (sym e) h)).1

  -- each declaration gives the kind that the first one does
  pub first_gives : (r : Rank) → Contains (declared d f).ranks r → first_result d (declared d f).ranks ≡ kind d r.result
  first_gives = first_of (declared d f).ranks refl
