-- The shapes so far.
use Rattle.std.proofs.Common.{◌≡◌, ◌++◌, map, take}
use Rattle.fvn_rewrite_laws.specs.Choices.{identity_shape}
use Rattle.fvn_cohere.proofs.choosing.with_identity_shapes.Given as goal

abbrev pub invariant-loop-e : goal.invariant-loop-e
invariant-loop-e l = l.all.items ≡ l.initial.all.items ++ map (identity_shape l.sig) (take l.e-index l.es)
