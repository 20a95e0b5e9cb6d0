-- the marks so far
use Rattle.std.proofs.Common.{take}
use Rattle.fvn_cover.specs.Marks.{AreMarks}
use Rattle.fvn_cover.proofs.marking.marked.Given as goal

abbrev pub invariant-loop-c : goal.invariant-loop-c
invariant-loop-c l = AreMarks l.sig l.kept (take l.c-index l.candidates) l.marks.items
