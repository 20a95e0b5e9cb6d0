-- No node so far is such a member.
use Rattle.std.proofs.Common.{ℕ, ◌<◌}
use Rattle.fvn_combine_nodes.specs.States.{class_of}
use Rattle.fvn_purify.specs.inner.Options.{IsSolidAt}
use Rattle.fvn_purify.specs.declared.classes.Head.{Head}
use Rattle.fvn_purify.proofs.heading.solid_in.Given as goal

abbrev pub invariant-loop-j : goal.invariant-loop-j
invariant-loop-j l = (j : ℕ) → j < l.j → (h : Head) → IsSolidAt l.sig l.table (class_of l.state) l.i j h → ⊥
