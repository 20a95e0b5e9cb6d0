-- The lines so far.
use Rattle.std.proofs.Common.{take}
use Rattle.fvn_answer.specs.Writing.{bytes_of as lines_in}
use Rattle.fvn_cmd_variants.specs.inner.Steps.{AreLinesOfVariants}
use Rattle.fvn_cmd_variants.proofs.lines.lines_of.Given as goal

abbrev pub invariant-loop-v : goal.invariant-loop-v
invariant-loop-v l = AreLinesOfVariants l.declared l.query (take l.v-index l.variants) (lines_in l.lines.items)
