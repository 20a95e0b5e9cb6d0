-- A kind has a first maximal sort.
use Rattle.std.proofs.Common.{◌≡◌, ◌<◌, length, sym, ap, subst, arith, Some}
use Rattle.std.specs.Prelude.{slice_get}
use Rattle.fvn_terms.specs.declared.plain.SortId.{SortId}
use Rattle.fvn_terms.specs.declared.declarations.Declarations.{Declarations}
use Rattle.fvn_terms.specs.Signature.{kind, AtOrBelow, to_kind, same}
use Rattle.fvn_forms.specs.Good.{IsGood}
use Rattle.fvn_signature.specs.Queries.{IsKind, IsCompleted, IsMaximalOf, IsBelow, direct_subsorts}
use Rattle.fvn_signature.specs.Laws.{DirectSubsortsCover, DirectSubsortsOfKinds}
use Rattle.fvn_answer.specs.Writing.{top}
use Rattle.fvn_answer.proofs.Lists.{got-some}
use Rattle.fvn_answer.proofs.Printing.{got}

module _ (d : Declarations) (good : IsGood d) (done : IsCompleted d) (cover : DirectSubsortsCover) (maximal : DirectSubsortsOfKinds) (k : SortId) (is : IsKind d k) where
  pub some : 0 < length (direct_subsorts d k)
  some =
      let s = (done.sort_of_kind k is).0 in
      let low : s.0 < d.sorts = (done.sort_of_kind k is).1.0 in
      let of_kind : kind d s ≡ k = (done.sort_of_kind k is).1.1 in
      let high = is.after_sorts in
      let below : IsBelow d s k =
      (to_kind (subst (λ q. AtOrBelow d q k) (sym of_kind) same), λ e. let n = ap (λ (q : SortId). q.0) e in absurd (omega arith)) in
      let found = (cover d good k s low).0 below in
      let place = found.1.0 in
      let within : place.0 < length (direct_subsorts d k) = place.1 in
      omega arith

  module _ (r : SortId) (e : slice_get (direct_subsorts d k) 0 ≡ Some r) where
    pub top-exact : r ≡ top d k
    top-exact = sym (got (direct_subsorts d k) 0 r k e)

    pub top-maximal : IsMaximalOf d k r
    top-maximal = (maximal d good done k r is).0 (0, some, got (direct_subsorts d k) 0 r r e)

-- each kind is named after its first maximal sort
pub tops : (d : Declarations) → IsGood d → IsCompleted d → DirectSubsortsCover → DirectSubsortsOfKinds → (k : SortId) → IsKind d k → IsMaximalOf d k (top d k)
tops d good done cover maximal k is =
    top-maximal d good done cover maximal k is (top d k) (got-some (direct_subsorts d k) 0 k (some d good done cover maximal k is))
