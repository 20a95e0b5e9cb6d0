-- What is left decides.
use Rattle.std.proofs.Common.{◌≡◌, ◌+◌}
use Rattle.std.specs.Prelude.{drop, option_map}
use Rattle.fvn_weights.specs.inner.Numbers.{place}
use Rattle.fvn_weights.proofs.numbers.place_of.Given as goal

abbrev pub invariant-loop-i : goal.invariant-loop-i
invariant-loop-i l = place l.factors l.fn.x ≡ option_map (λ n. l.i + n) (place (drop l.i l.factors) l.fn.x)
