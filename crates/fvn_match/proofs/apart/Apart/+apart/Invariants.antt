-- What is left of two lists, and the measures of the recursion.
use Rattle.std.proofs.Common.{◌+◌, ◌*◌, drop}
use Rattle.fvn_match.specs.inner.Goals.{bindings_of, weight, weight_of}
use Rattle.fvn_match.proofs.TakingApart.{IsLeft}
use Rattle.fvn_match.proofs.apart.Apart.+apart.Given as goal

abbrev pub decreases-take : goal.decreases-take
decreases-take l = 2 * weight l.p.now + 1

abbrev pub decreases-take_either : goal.decreases-take_either
decreases-take_either l = 2 * weight l.p.now

abbrev pub decreases-take_both : goal.decreases-take_both
decreases-take_both l = 2 * weight_of l.ps.now

abbrev pub decreases-take_all : goal.decreases-take_all
decreases-take_all l = 2 * weight_of l.ps.now

abbrev pub invariant-take_all-loop-i : goal.invariant-take_all-loop-i
invariant-take_all-loop-i l = IsLeft l.sig (bindings_of l.bound) l.initial.self l.self l.ps l.ts (drop l.i l.ps) (drop l.i l.ts)
