-- What was taken where reading stops before the end.
use Rattle.std.proofs.Common.{arith, length-take, ℕ}
use Rattle.fvn_outside.proofs.ResultLemmas.{IfErr-each}
use Rattle.fvn_outside.proofs.SourceLemmas.{TakesAtMost-read, TakesCount-over, TakesCount-read}
use Rattle.fvn_outside.proofs.reading.read_all.Goals as goal

pub returns-then-n-limit-clause-stopped : goal.returns-then-n-limit-clause-stopped
returns-then-n-limit-clause-stopped g c = λ _.
    TakesCount-read _ _ _ _ _ _ _ c.loop-bytes.invariant.taken c.in_ok-n.ensures.ok c.in_ok-n.ensures.bound (omega (arith, length-take {A = ℕ}, c.in_ok-n.ensures.bound))

pub returns-then-n-limit-clause-too_long : goal.returns-then-n-limit-clause-too_long
returns-then-n-limit-clause-too_long g c = λ is.
    TakesCount-over _ _ _ (returns-then-n-limit-clause-stopped g c is)

pub returns-in_err-extend_from_slice-clause-part : goal.returns-in_err-extend_from_slice-clause-part
returns-in_err-extend_from_slice-clause-part g c =
    IfErr-each _ c.from_residual-in_err-extend_from_slice.result (λ _ _. TakesAtMost-read _ _ _ _ _ _ _ c.loop-bytes.invariant.taken c.in_ok-n.ensures.ok c.in_ok-n.ensures.bound (omega arith))
