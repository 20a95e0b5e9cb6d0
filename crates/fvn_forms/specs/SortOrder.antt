-- Whether a sort is another one or below it, as a test.
use Rattle.std.specs.Prelude.{ℕ, ◌+◌, Bool, ◌&&◌, ◌||◌, nat_eq, List, [], ◌∷◌, ◌++◌}
use Rattle.fvn_terms.specs.declared.plain.SortId.{SortId}
use Rattle.fvn_terms.specs.declared.declarations.Declarations.{Declarations}

-- the sort of this number
abbrev pub sort_number : ℕ → SortId
sort_number n = record { 0 = n }

-- whether two sorts are one
abbrev pub same_sort : SortId → SortId → Bool
same_sort s q = nat_eq s.0 q.0

-- whether pairs of the list lead from s to q: without the first pair, or once along it
unfoldable pub reaches : List (SortId × SortId) → SortId → SortId → Bool
reaches [] s q = same_sort s q
reaches (p ∷ ps) s q = reaches ps s q || (reaches ps s p.0 && reaches ps p.1 q)

-- each sort from number n on, with its kind
abbrev pub kind_steps : ℕ → List SortId → List (SortId × SortId)
kind_steps n [] = []
kind_steps n (k ∷ ks) = (sort_number n, k) ∷ kind_steps (n + 1) ks

-- the pairs of the order, and each sort with its kind
abbrev pub order_steps : Declarations → List (SortId × SortId)
order_steps d = d.below ++ kind_steps 0 d.kinds

-- the test of `AtOrBelow`
unfoldable pub at_or_below : Declarations → SortId → SortId → Bool
at_or_below d = reaches (order_steps d)
