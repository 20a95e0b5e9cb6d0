-- the list and the marks of all
use Rattle.std.proofs.Common.{sym, subst}
use Rattle.fvn_cover.specs.Adding.{IsAdded}
use Rattle.fvn_cover.proofs.sieve.Sieve.with_member.Goals as goal

pub with_one-requires-clause-marks : goal.with_one-requires-clause-marks
with_one-requires-clause-marks c = c.self.invariant

pub with_one-requires-clause-flat : goal.with_one-requires-clause-flat
with_one-requires-clause-flat c = rw c.self.view_is c.requires.flat

pub with_one-requires-clause-alike : goal.with_one-requires-clause-alike
with_one-requires-clause-alike c = rw c.self.view_is c.requires.alike

pub invariant_of-result : goal.invariant_of-result
invariant_of-result c = c.in_ok-both.ensures.marks

pub returns : goal.returns
returns c = rw c.self.view_is at c.in_ok-both.ensures.added
