-- the candidates so far
use Rattle.std.proofs.Common.{◌≡◌, length}
use Rattle.fvn_fold.specs.inner.Gathering.{AreTaken}
use Rattle.fvn_fold.proofs.levels.taken.Given as goal

abbrev pub invariant-loop-candidate : goal.invariant-loop-candidate
invariant-loop-candidate l = AreTaken l.sig l.kept l.fn.before.items l.yielded l.after.items × (l.i ≡ length l.yielded)
