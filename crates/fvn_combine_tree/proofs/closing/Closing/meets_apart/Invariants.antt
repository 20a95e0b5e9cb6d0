-- The pairs that are left decide.
use Rattle.std.proofs.Common.{◌≡◌, drop}
use Rattle.std.specs.List.{list_any}
use Rattle.fvn_combine_nodes.specs.States.{is_same}
use Rattle.fvn_combine_tree.specs.inner.Closing.{state_of}
use Rattle.fvn_combine_tree.proofs.closing.Closing.meets_apart.Given as goal

abbrev pub invariant-loop-i : goal.invariant-loop-i
invariant-loop-i l = list_any (λ p. is_same (state_of l.self) p.0 p.1) l.self.apart.items ≡ list_any (λ p. is_same (state_of l.self) p.0 p.1) (drop l.i-index l.i-items)
