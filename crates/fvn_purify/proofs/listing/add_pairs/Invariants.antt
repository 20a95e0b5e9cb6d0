-- Just the pairs so far are listed.
use Rattle.fvn_purify.specs.Parts.{IsEach}
use Rattle.fvn_purify.specs.inner.Standing.{IsPairBelow}
use Rattle.fvn_purify.proofs.listing.add_pairs.Given as goal

abbrev pub invariant-loop-i : goal.invariant-loop-i
invariant-loop-i l = IsEach (IsPairBelow l.sig l.table l.j l.i) l.list.items
