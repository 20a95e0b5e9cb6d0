-- The identities of the operators so far.
use Rattle.std.proofs.Common.{◌≡◌, [], take}
use Rattle.std.specs.Prelude.{fold}
use Rattle.fvn_rewrite_laws.specs.Identities.{with_identity_of}
use Rattle.fvn_cohere.proofs.identities.identities.Given as goal

abbrev pub invariant-loop-op : goal.invariant-loop-op
invariant-loop-op l = l.all.items ≡ fold with_identity_of [] (take l.op-index l.op-items)
