-- The variables so far, with their choices.
use Rattle.std.proofs.Common.{◌≡◌, take}
use Rattle.fvn_cohere.specs.inner.Searching.{choices_for, unchosen_of}
use Rattle.fvn_cohere.proofs.choosing.unchosen.Given as goal

abbrev pub invariant-loop-x : goal.invariant-loop-x
invariant-loop-x l = l.all.items ≡ unchosen_of (choices_for l.sig l.sought) (take l.x-index l.vars)
