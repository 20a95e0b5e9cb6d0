-- the arguments so far keep their texts
use Rattle.std.proofs.Common.{ℕ, ◌<◌, get_or}
use Rattle.fvn_forms.specs.Flat.{FlatTerm}
use Rattle.fvn_flat.specs.Weight.{places}
use Rattle.fvn_answer.specs.inner.Twins.{KeepsText}
use Rattle.fvn_answer.proofs.twins.+raises_term.Given as goal

abbrev pub decreases-raises_term : goal.decreases-raises_term
decreases-raises_term l = places l.t.now

abbrev pub invariant-loop-u : goal.invariant-loop-u
invariant-loop-u l = (i : ℕ) (z : FlatTerm) → i < l.u-index → KeepsText l.signature l.x l.y (get_or l.u-items i z)
