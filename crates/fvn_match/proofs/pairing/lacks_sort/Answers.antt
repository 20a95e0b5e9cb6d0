-- Sorts of a pattern and its target, in order.
use Rattle.fvn_match.proofs.pairing.lacks_sort.Goals as goal

pub least_sort-requires : goal.least_sort-requires
least_sort-requires c = record { flat = c.requires.target; kinded = (c.requires.of_kind, c.requires.target_kind) }

pub least_sort-requires-2 : goal.least_sort-requires-2
least_sort-requires-2 c = record { flat = c.requires.pattern; kinded = (c.requires.of_kind, c.requires.pattern_kind) }
