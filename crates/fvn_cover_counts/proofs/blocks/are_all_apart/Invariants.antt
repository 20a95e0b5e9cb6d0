-- all marks so far are refused
use Rattle.std.proofs.Common.{take}
use Rattle.std.specs.Prelude.{All}
use Rattle.fvn_cover_counts.specs.Marks.{RefuseEachOther}
use Rattle.fvn_cover_counts.proofs.blocks.are_all_apart.Given as goal

abbrev pub invariant-loop-k : goal.invariant-loop-k
invariant-loop-k l = All (RefuseEachOther l.out l.m) (take l.k-index l.list)
