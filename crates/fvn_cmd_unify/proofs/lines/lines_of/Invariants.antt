-- The lines so far.
use Rattle.std.proofs.Common.{take}
use Rattle.fvn_answer.specs.Writing.{bytes_of as lines_in}
use Rattle.fvn_cmd_unify.specs.inner.Told.{AreLinesOfBindings}
use Rattle.fvn_cmd_unify.proofs.lines.lines_of.Given as goal

abbrev pub invariant-loop-s : goal.invariant-loop-s
invariant-loop-s l = AreLinesOfBindings l.declared l.problem (take l.s-index l.unifiers) (lines_in l.lines.items)
