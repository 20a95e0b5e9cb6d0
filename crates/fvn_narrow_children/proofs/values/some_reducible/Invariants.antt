-- None of the values so far is reducible.
use Rattle.std.proofs.Common.{take}
use Rattle.fvn_rewrite.specs.Usable.{equations_by}
use Rattle.fvn_narrow_children.specs.Values.{AreIrreducible}
use Rattle.fvn_narrow_children.proofs.values.some_reducible.Given as goal

abbrev pub invariant-loop-x : goal.invariant-loop-x
invariant-loop-x l = AreIrreducible l.rewriter.signature (equations_by l.rewriter) (take l.x-index l.vars) l.new
