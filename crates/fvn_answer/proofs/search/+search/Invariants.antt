-- what has been searched
use Rattle.std.proofs.Common.{◌*◌, ◌+◌, ◌-◌, length}
use Rattle.fvn_answer.specs.inner.Shown.{shown}
use Rattle.fvn_answer.proofs.Searching.{SearchedUpTo}
use Rattle.fvn_answer.proofs.search.+search.Given as goal

abbrev pub decreases-search : goal.decreases-search
decreases-search l = 2 * (length l.order.now - l.k) + 1

abbrev pub decreases-search_tips : goal.decreases-search_tips
decreases-search_tips l = 2 * (length l.order.now - l.k)

abbrev pub invariant-search_tips-loop-j : goal.invariant-search_tips-loop-j
invariant-search_tips-loop-j l = SearchedUpTo l.signature l.var_names.texts l.names (shown l.printed) l.order l.k l.j l.tips l.fn.best l.best
