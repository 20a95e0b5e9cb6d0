-- Kinds of terms, and of what operators give.
use Rattle.std.proofs.Common.{◌≡◌, sym, ap, ◌∙◌, subst, Contains}
use Rattle.fvn_terms.specs.declared.plain.OpId.{OpId}
use Rattle.fvn_terms.specs.declared.plain.SortId.{SortId}
use Rattle.fvn_terms.specs.declared.declarations.Rank.{Rank}
use Rattle.fvn_terms.specs.declared.declarations.Declarations.{Declarations}
use Rattle.fvn_terms.specs.Term.{Term, var, app}
use Rattle.fvn_terms.specs.Signature.{kind, declared, IsSort, HasKind}
use Rattle.fvn_forms.specs.Good.{IsGood}

module _ {d : Declarations} (good : IsGood d) where
  -- a kind that a term has is a sort, and its own kind
  pub kind_itself : (u : Term) (k : SortId) → HasKind d u k → IsSort d k × (kind d k ≡ k)
  kind_itself (var x) k r = (subst (IsSort d) r.1 (good.kinded.listed x.sort r.0), ap (kind d) (sym r.1) ∙ good.kinded.own x.sort ∙ r.1)
  kind_itself (app f ts) k r =
      let s = r.rank.result in
      (subst (IsSort d) r.result (good.kinded.listed s (good.kinded.ranks f r.rank r.listed).1), ap (kind d) (sym r.result) ∙ good.kinded.own s ∙ r.result)

  -- a declaration of f gives this kind
  pub record IsKindOf (f : OpId) (k : SortId) : Type 0 where
    pub rank : Rank
    pub listed : Contains (declared d f).ranks rank
    pub gives : kind d rank.result ≡ k

  pub kind_of_unique : (f : OpId) (k q : SortId) → IsKindOf f k → IsKindOf f q → k ≡ q
  kind_of_unique f k q a b = sym a.gives ∙ (good.fits.agree f a.rank b.rank a.listed b.listed).1 ∙ b.gives
