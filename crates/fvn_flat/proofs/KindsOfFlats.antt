-- The head of a form that fits tells its kind.
use Rattle.std.proofs.Common.{◌≡◌, ◌≤◌, Bool, true, false, refl, sym, ◌∙◌, subst, arith}
use Rattle.fvn_terms.specs.declared.plain.Var.{Var}
use Rattle.fvn_terms.specs.declared.plain.OpId.{OpId}
use Rattle.fvn_terms.specs.declared.plain.SortId.{SortId}
use Rattle.fvn_terms.specs.declared.declarations.Declarations.{Declarations}
use Rattle.fvn_terms.specs.Signature.{kind, HasKind}
use Rattle.fvn_forms.specs.Flat.{FlatTerm, FlatTerms, fvar, fapp, fnone, fmore, plain}
use Rattle.fvn_forms.specs.Good.{IsGood}
use Rattle.fvn_forms.specs.Settled.{Settled}
use Rattle.fvn_forms.specs.LeastSort.{least_sort}
use Rattle.fvn_forms.proofs.LeastSort.{sort_in-kind}
use Rattle.fvn_signature.specs.Queries.{GivesKind}
use Rattle.fvn_flat.specs.Fits.{Fits}

module _ (d : Declarations) where
  -- each form under an operator has the kind that the operator gives
  kind_under : (f : OpId) (q : SortId) → GivesKind d f q → (joined : Bool) (ts : FlatTerms) → Settled d (fapp f joined ts) → (k : SortId) → HasKind d (plain (fapp f joined ts)) k → q ≡ k
  kind_under f q gives true fnone h k j = gives j.rank j.listed ∙ j.result
  kind_under f q gives true (fmore t fnone) h k j = let n : 2 ≤ 1 = h.0.two_or_more in absurd (omega arith)
  kind_under f q gives true (fmore t (fmore u us)) h k j = gives j.rank j.listed ∙ j.result
  kind_under f q gives false ts h k j = gives j.rank j.listed ∙ j.result

  module _ (t : FlatTerm) (fits : Fits d t) where
    -- a variable has the kind of its sort
    pub kind_of_variable : (x : Var) → t ≡ fvar x → HasKind d (plain t) (kind d x.sort)
    kind_of_variable x is =
        let whole : Fits d (fvar x) = subst (Fits d) is fits in
        subst (λ u. HasKind d (plain u) (kind d x.sort)) (sym is) (whole.kinded.1.0, refl)

    -- under an operator it has the kind that the operator gives
    pub kind_of_operator : (f : OpId) (joined : Bool) (ts : FlatTerms) → t ≡ fapp f joined ts → (q : SortId) → GivesKind d f q → HasKind d (plain t) q
    kind_of_operator f joined ts is q gives =
        let whole : Fits d (fapp f joined ts) = subst (Fits d) is fits in
        let same_kind : q ≡ whole.kinded.0 = kind_under f q gives joined ts whole.flat whole.kinded.0 whole.kinded.1 in
        subst (λ u. HasKind d (plain u) q) (sym is) (subst (HasKind d (plain (fapp f joined ts))) (sym same_kind) whole.kinded.1)

    -- its kind is that of its least sort
    pub kind_of_least : IsGood d → (k : SortId) → HasKind d (plain t) k → k ≡ kind d (least_sort d t)
    kind_of_least good k h = sym (sort_in-kind d good (λ x. x.sort) (λ x i. refl) t fits.flat k h)
