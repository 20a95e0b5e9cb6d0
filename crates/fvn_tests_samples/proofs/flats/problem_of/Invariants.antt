-- The sides so far fit.
use Rattle.std.proofs.Common.{All}
use Rattle.fvn_flat.specs.Fits.{Fits}
use Rattle.fvn_tests_samples.proofs.flats.problem_of.Given as goal

abbrev pub invariant-loop-pair : goal.invariant-loop-pair
invariant-loop-pair l =
    (goal.iterator-loop-pair).can_next l.pair-iterator × (goal.iterator-loop-pair).is_finite l.pair-iterator × All (λ q. Fits l.sig q.0 × Fits l.sig q.1) l.pairs.items
