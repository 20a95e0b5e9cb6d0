-- No solution that is passed is a home.
use Rattle.std.proofs.Common.{ℕ, ◌<◌, get_or}
use Rattle.fvn_lindio.specs.declared.system.Solution.{Solution}
use Rattle.fvn_combine.specs.inner.Homes.{IsNoHome}
use Rattle.fvn_combine.proofs.homes.has_home.Given as goal

abbrev pub invariant-loop-v : goal.invariant-loop-v
invariant-loop-v l = (n : ℕ) (w : Solution) → n < l.v-index → IsNoHome l.decided l.tags l.reading l.entry l.j (get_or l.basis n w)
