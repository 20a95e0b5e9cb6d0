-- The sorts so far.
use Rattle.std.proofs.Common.{◌≡◌, map, take}
use Rattle.fvn_rewrite.specs.inner.SortedTerms.{sort_of}
use Rattle.fvn_rewrite.proofs.shared.sorts_of.Given as goal

abbrev pub invariant-loop-t : goal.invariant-loop-t
invariant-loop-t l = l.sorts.items ≡ map sort_of (take l.t-index l.ts)
