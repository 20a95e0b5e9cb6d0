-- The numbers so far are all k.
use Rattle.std.proofs.Common.{◌≡◌, All, take}
use Rattle.fvn_combine_inferring.proofs.rules.are_all.Given as goal

abbrev pub invariant-loop-x : goal.invariant-loop-x
invariant-loop-x l = All (λ x. x ≡ l.k) (take l.x-index l.list)
