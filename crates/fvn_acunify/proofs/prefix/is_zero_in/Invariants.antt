-- None of the columns so far is touched.
use Rattle.std.proofs.Common.{◌≡◌, take}
use Rattle.fvn_acunify.specs.ValidChoice.{touched}
use Rattle.fvn_acunify.proofs.prefix.is_zero_in.Given as goal

abbrev pub invariant-loop-c : goal.invariant-loop-c
invariant-loop-c l = touched (take l.c-index l.columns) l.parts ≡ 0
