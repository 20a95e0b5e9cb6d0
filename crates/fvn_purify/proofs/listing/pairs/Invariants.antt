-- Just the pairs so far are listed.
use Rattle.fvn_purify.specs.Parts.{IsEach}
use Rattle.fvn_purify.specs.inner.Standing.{IsPairBelow}
use Rattle.fvn_purify.proofs.listing.pairs.Given as goal

abbrev pub invariant-loop-j : goal.invariant-loop-j
invariant-loop-j l = IsEach (IsPairBelow l.sig l.table l.j 0) l.list.items
