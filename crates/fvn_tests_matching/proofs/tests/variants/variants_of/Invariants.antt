-- The variants so far are flat.
use Rattle.std.specs.Prelude.{All}
use Rattle.fvn_cover.specs.Covering.{IsFlatVariant}
use Rattle.fvn_tests_matching.proofs.tests.variants.variants_of.Given as goal

abbrev pub invariant-loop-part : goal.invariant-loop-part
invariant-loop-part l = All (IsFlatVariant l.sig) l.all.items
