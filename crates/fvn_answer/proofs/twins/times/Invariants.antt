-- the arguments that are left decide
use Rattle.std.proofs.Common.{◌≡◌, ◌+◌, ◌≤◌, drop}
use Rattle.fvn_answer.specs.inner.Twins.{times}
use Rattle.fvn_answer.proofs.twins.times.Given as goal

abbrev pub invariant-loop-u : goal.invariant-loop-u
invariant-loop-u l = (times l.x l.fn.args ≡ l.n + times l.x (drop l.u-index l.args)) × (l.n ≤ l.u-index)
