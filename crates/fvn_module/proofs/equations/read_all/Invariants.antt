-- What holds in the loop.
use Rattle.std.proofs.Common.{take}
use Rattle.fvn_module.specs.Equations.{AreEquationsOf}
use Rattle.fvn_module.proofs.equations.read_all.Given as goal

-- the equations so far were read
abbrev pub invariant-loop-i : goal.invariant-loop-i
invariant-loop-i l = AreEquationsOf l.scope (take l.i l.list) l.equations.items
