-- The sorts so far are known.
use Rattle.std.specs.Prelude.{All}
use Rattle.fvn_terms.specs.Signature.{IsSort}
use Rattle.fvn_tests_matching.proofs.tests.variants.vars_of.Given as goal

abbrev pub invariant-loop-pair : goal.invariant-loop-pair
invariant-loop-pair l = All (λ x. IsSort l.sig x.sort) l.all.items
