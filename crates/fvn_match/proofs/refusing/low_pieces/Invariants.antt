-- The pieces that are left decide.
use Rattle.std.proofs.Common.{◌≡◌, ◌+◌, drop}
use Rattle.fvn_match.specs.inner.Goals.{pieces_of}
use Rattle.fvn_match.specs.inner.Refusing.{low_left}
use Rattle.fvn_match.proofs.refusing.low_pieces.Given as goal

abbrev pub invariant-loop-i : goal.invariant-loop-i
invariant-loop-i l = l.n + low_left l.sig l.s (drop l.i (pieces_of l.goal)) (drop l.i l.goal.left.now) ≡ low_left l.sig l.s (pieces_of l.goal) l.goal.left.now
