-- all marks of the blocks so far are refused
use Rattle.std.proofs.Common.{take}
use Rattle.std.specs.Prelude.{All}
use Rattle.fvn_cover_counts.specs.Marks.{RefuseEachOther}
use Rattle.fvn_cover_counts.specs.inner.Blocks.{HoldsIn}
use Rattle.fvn_cover_counts.proofs.blocks.are_refused.Given as goal

abbrev pub invariant-loop-b : goal.invariant-loop-b
invariant-loop-b l = All (HoldsIn (RefuseEachOther l.out l.m)) (take l.b-index l.blocks)
