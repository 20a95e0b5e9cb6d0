-- The ranks that serve an operator, and the least result over given sorts.
-- J. A. Goguen and J. Meseguer, Order-sorted algebra I, 1992.
use Rattle.std.specs.Prelude.{◌≡◌, List, [], ◌∷◌, ◌++◌, map, find, Contains, unwrap_or}
use Rattle.std.specs.List.{AllZip, list_all, filter}
use Rattle.std.specs.Prelude.{Bool, true, false, ◌&&◌}
use Rattle.fvn_terms.specs.declared.plain.OpId.{OpId}
use Rattle.fvn_terms.specs.declared.plain.SortId.{SortId}
use Rattle.fvn_terms.specs.declared.declarations.Axioms.{Axioms}
use Rattle.fvn_terms.specs.declared.declarations.Axioms.TheVariants.{Free, Comm, AssocComm, AssocCommId}
use Rattle.fvn_terms.specs.declared.declarations.Rank.{Rank}
use Rattle.fvn_terms.specs.declared.declarations.Declarations.{Declarations}
use Rattle.fvn_terms.specs.Signature.{kind, declared, axioms, AtOrBelow}
use Rattle.fvn_forms.specs.SortOrder.{sort_number, at_or_below}

-- the rank with these two arguments swapped; none for other numbers of arguments
abbrev pub swapped_args : List SortId → SortId → List Rank
swapped_args (s ∷ q ∷ []) r = record { args = q ∷ s ∷ []; result = r } ∷ []
swapped_args [] r = []
swapped_args (s ∷ []) r = []
swapped_args (s ∷ q ∷ u ∷ us) r = []

-- the ranks of two arguments with these swapped
abbrev pub swapped_ranks : List Rank → List Rank
swapped_ranks [] = []
swapped_ranks (r ∷ rs) = swapped_args r.args r.result ++ swapped_ranks rs

-- what swapping adds for an operator with these axioms
abbrev pub swaps : Axioms → List Rank → List Rank
swaps Free rs = []
swaps Comm rs = swapped_ranks rs
swaps AssocComm rs = swapped_ranks rs
swaps (AssocCommId e) rs = swapped_ranks rs

-- whether the test holds place by place, of lists that are as long
abbrev pub pass_together : (SortId → SortId → Bool) → List SortId → List SortId → Bool
pass_together test [] [] = true
pass_together test [] (q ∷ qs) = false
pass_together test (s ∷ ss) [] = false
pass_together test (s ∷ ss) (q ∷ qs) = test s q && pass_together test ss qs

module _ (d : Declarations) where
  -- a rank on the kinds of its sorts
  abbrev pub kind_rank : Rank → Rank
  kind_rank r = record { args = map (kind d) r.args; result = kind d r.result }

  -- the declared ranks, and these on kinds
  abbrev pub written_ranks : OpId → List Rank
  written_ranks f = (declared d f).ranks ++ map kind_rank (declared d f).ranks

  -- the declared ranks, these on kinds, and for a commutative operator each with its arguments swapped
  abbrev pub ranks_of : OpId → List Rank
  ranks_of f = written_ranks f ++ swaps (axioms d f) (written_ranks f)

  -- some rank of f takes arguments of these sorts to r
  pub record Serves (f : OpId) (args : List SortId) (r : SortId) : Type 0 where
    pub rank : Rank
    pub listed : Contains (ranks_of f) rank
    pub fits : AllZip (AtOrBelow d) args rank.args
    pub gives : rank.result ≡ r

  -- r is the least sort to which f takes arguments of these sorts
  pub record IsResult (f : OpId) (args : List SortId) (r : SortId) : Type 0 where
    pub serves : Serves f args r
    pub least : (q : SortId) → Serves f args q → AtOrBelow d r q

  -- the sorts to which f takes arguments of these sorts
  abbrev pub results : List Rank → List SortId → List SortId
  results rs args = map (λ r. r.result) (filter (λ r. pass_together (at_or_below d) args r.args) rs)

  -- whether r is each of these sorts or below it
  abbrev pub is_lowest : List SortId → SortId → Bool
  is_lowest qs r = list_all (at_or_below d r) qs

  -- the kind of what the first of the ranks gives; without ranks sort 0
  abbrev pub first_result : List Rank → SortId
  first_result [] = sort_number 0
  first_result (r ∷ rs) = kind d r.result

  -- the least sort to which f takes arguments of these sorts; where there is none, the kind of what f gives, or sort 0 where f is unknown
  unfoldable pub result : OpId → List SortId → SortId
  result f args =
      let rs = results (ranks_of f) args in
      unwrap_or (find (is_lowest rs) rs) (first_result (declared d f).ranks)
