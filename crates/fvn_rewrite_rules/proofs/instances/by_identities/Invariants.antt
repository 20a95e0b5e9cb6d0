-- The rules by the identities so far.
use Rattle.std.proofs.Common.{◌≡◌, take}
use Rattle.fvn_rewrite_rules.specs.inner.Making.{by_identities}
use Rattle.fvn_rewrite_rules.proofs.instances.by_identities.Given as goal

abbrev pub invariant-loop-e : goal.invariant-loop-e
invariant-loop-e l = l.all.items ≡ by_identities l.sig l.x l.rules (take l.e-index l.es)
