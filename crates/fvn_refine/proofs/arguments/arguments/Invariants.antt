-- The argument lists of the ranks so far.
use Rattle.std.proofs.Common.{take}
use Rattle.fvn_forms.specs.Ranks.{ranks_of}
use Rattle.fvn_refine.specs.inner.Found.{AreArguments}
use Rattle.fvn_refine.proofs.arguments.arguments.Given as goal

abbrev pub invariant-loop-i : goal.invariant-loop-i
invariant-loop-i l = AreArguments l.sig l.s (take l.i (ranks_of l.sig l.f)) l.rows.items
