-- What the loops of `get` keep.
use Rattle.std.proofs.Common.{◌≡◌, drop}
use Rattle.fvn_terms.specs.Substitution.{bound}
use Rattle.fvn_terms.proofs.substitution.PlainSubst.get.Given as goal

-- the pairs that are left decide
abbrev pub invariant-loop-x : goal.invariant-loop-x
invariant-loop-x l = bound l.self.pairs l.v ≡ bound (drop l.x-index l.x-items) l.v
