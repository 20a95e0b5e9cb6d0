-- The nodes so far are joined.
use Rattle.std.proofs.Common.{◌≡◌, ℕ, ◌<◌, get_or}
use Rattle.fvn_combine_nodes.specs.Classes.{AreTogether}
use Rattle.fvn_combine_nodes.specs.States.{class_of}
use Rattle.fvn_combine_tree.specs.inner.Closing.{state_of, HasMoved}
use Rattle.fvn_combine_tree.proofs.closing.Closing.join_all.Given as goal

abbrev pub invariant-loop-i : goal.invariant-loop-i
invariant-loop-i l = HasMoved (λ class. AreTogether class l.ks l.ls) (λ s. (k : ℕ) → k < l.i → class_of s (get_or l.ks k 0) ≡ class_of s (get_or l.ls k 0)) (state_of l.fn.self) (state_of l.self) l.whole
