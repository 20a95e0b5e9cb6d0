-- Arguments stand before their operator; the terms so far are those of the nodes so far.
use Rattle.std.proofs.Common.{◌≡◌, map, take}
use Rattle.fvn_terms.specs.Term.{pack}
use Rattle.fvn_terms.specs.Plain.{terms}
use Rattle.fvn_combine_nodes.specs.Table.{term_at}
use Rattle.fvn_purify.proofs.forming.+plain_at.Given as goal

abbrev pub decreases-plain_at : goal.decreases-plain_at
decreases-plain_at l = l.i

abbrev pub invariant-loop-n : goal.invariant-loop-n
invariant-loop-n l = terms l.items.items ≡ pack (map (term_at l.table.nodes) (take l.n l.arguments))
