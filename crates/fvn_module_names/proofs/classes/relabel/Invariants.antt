-- The first of the numbers have the label.
use Rattle.std.proofs.Common.{take}
use Rattle.fvn_module_names.specs.inner.Classes.{IsRelabelled}
use Rattle.fvn_module_names.proofs.classes.relabel.Given as goal

-- the first of the numbers have the label
abbrev pub invariant-loop-i : goal.invariant-loop-i
invariant-loop-i l = IsRelabelled l.fn.labels l.labels (take l.i-index l.listed) l.label
