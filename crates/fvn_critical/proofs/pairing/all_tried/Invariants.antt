-- Both results join under the unifiers so far.
use Rattle.std.proofs.Common.{take}
use Rattle.fvn_critical.specs.inner.Testing.{overlap_in, AllJoin}
use Rattle.fvn_critical.proofs.pairing.all_tried.Given as goal

abbrev pub invariant-loop-s : goal.invariant-loop-s
invariant-loop-s g l = AllJoin l.tester.rewriter (overlap_in l.meeting) (take l.s-index l.unifiers)
