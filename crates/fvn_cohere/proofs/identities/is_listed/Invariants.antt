-- The operators that are left decide.
use Rattle.std.proofs.Common.{◌≡◌, drop}
use Rattle.fvn_rewrite_laws.specs.Identities.{is_listed_op}
use Rattle.fvn_cohere.proofs.identities.is_listed.Given as goal

abbrev pub invariant-loop-g : goal.invariant-loop-g
invariant-loop-g l = is_listed_op l.es l.e ≡ is_listed_op (drop l.g-index l.es) l.e
