-- The sorts of the arguments so far, and the measures of the recursion.
use Rattle.std.proofs.Common.{◌≡◌, ◌+◌, ◌*◌, length, map, take}
use Rattle.fvn_terms.specs.declared.plain.Plain.{Plain}
use Rattle.fvn_terms.specs.Term.{nodes, nodes_all}
use Rattle.fvn_terms.specs.Plain.{term}
use Rattle.fvn_forms.specs.Canon.{canon}
use Rattle.fvn_forms.specs.LeastSort.{least_sort}
use Rattle.fvn_sort_bounds.proofs.sorting.+least.Given as goal

-- the sorts so far
abbrev pub invariant-sort_plain-loop-u : goal.invariant-sort_plain-loop-u
invariant-sort_plain-loop-u l = record {
  count : l.i ≡ l.u-index;
  room : length l.sorts ≡ 8;
  sorts : take l.i l.sorts ≡ map (λ (t : Plain). least_sort l.signature (canon l.signature (term t))) (take l.u-index l.u-items);
}

-- twice the nodes, and one more for arguments
abbrev pub decreases-sort_term : goal.decreases-sort_term
decreases-sort_term l = 2 * nodes (term l.t.now)

abbrev pub decreases-sort_sum : goal.decreases-sort_sum
decreases-sort_sum l = 2 * nodes_all l.us.now + 1

abbrev pub decreases-sort_plain : goal.decreases-sort_plain
decreases-sort_plain l = 2 * nodes_all l.us.now + 1
