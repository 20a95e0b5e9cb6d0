-- The shapes so far.
use Rattle.std.proofs.Common.{◌≡◌, map, take}
use Rattle.fvn_rewrite_laws.specs.Choices.{variable_shape}
use Rattle.fvn_cohere.proofs.choosing.variable_shapes.Given as goal

abbrev pub invariant-loop-s : goal.invariant-loop-s
invariant-loop-s l = l.all.items ≡ map variable_shape (take l.s-index l.sorts)
