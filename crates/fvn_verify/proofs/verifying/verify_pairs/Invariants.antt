-- Forms of all sides of the pairs before this one were found, and this is their first difference.
use Rattle.std.proofs.Common.{take}
use Rattle.fvn_terms.specs.Substitution.{value}
use Rattle.fvn_verify.specs.inner.Comparing.{under, IsSoFar}
use Rattle.fvn_verify.proofs.verifying.verify_pairs.Given as goal

abbrev pub invariant-loop-i : goal.invariant-loop-i
invariant-loop-i l = IsSoFar (under l.rewriter (value l.bindings.pairs)) (take l.i l.pairs) l.first
