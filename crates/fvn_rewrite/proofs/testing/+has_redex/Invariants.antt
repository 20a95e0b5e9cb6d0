-- None of the arguments so far has a redex.
use Rattle.std.proofs.Common.{All, take}
use Rattle.fvn_flat.specs.Weight.{places}
use Rattle.fvn_theory.specs.Equations.{equations_of}
use Rattle.fvn_rewrite.specs.inner.Walking.{HasNoRedex}
use Rattle.fvn_rewrite.proofs.testing.+has_redex.Given as goal

abbrev pub decreases-has_redex : goal.decreases-has_redex
decreases-has_redex l = places l.t.now

abbrev pub invariant-loop-i : goal.invariant-loop-i
invariant-loop-i l = All (HasNoRedex l.sig (equations_of l.rules.equations)) (take l.i l.ts)
