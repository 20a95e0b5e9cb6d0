-- The sort of the flat form is the least sort of the term.
use Rattle.std.proofs.Common.{sym, subst}
use Rattle.fvn_terms.specs.Plain.{term}
use Rattle.fvn_terms.specs.Signature.{same}
use Rattle.fvn_terms.specs.Sorts.{IsLeastSort}
use Rattle.fvn_forms.proofs.LeastSort.{least_sort_exact}
use Rattle.fvn_sort_bounds.proofs.sorting.sort_of.Goals as goal

pub returns : goal.returns
returns c =
    let d = c.args.signature.now in
    let t = term c.args.t.now in
    subst (IsLeastSort d t) (sym c.sort_term.ensures.sort) record {
      has = (least_sort_exact d c.recall_good.ensures t c.requires _).1 same;
      least = λ q h. (least_sort_exact d c.recall_good.ensures t c.requires q).0 h;
    }
