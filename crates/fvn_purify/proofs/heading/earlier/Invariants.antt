-- No node so far is in the class.
use Rattle.std.proofs.Common.{◌≡◌, ℕ, ◌<◌, slice_get, Some}
use Rattle.fvn_combine_nodes.specs.States.{class_of}
use Rattle.fvn_purify.specs.declared.classes.Head.{Head}
use Rattle.fvn_purify.proofs.heading.earlier.Given as goal

abbrev pub invariant-loop-k : goal.invariant-loop-k
invariant-loop-k l = (m j : ℕ) (h : Head) → m < l.k → slice_get l.headed m ≡ Some j → slice_get l.heads m ≡ Some h → class_of l.state j ≡ class_of l.state l.i → ⊥
