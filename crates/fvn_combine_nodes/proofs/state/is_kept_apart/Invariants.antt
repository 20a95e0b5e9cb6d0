-- The pairs that are left decide.
use Rattle.std.proofs.Common.{◌≡◌, drop}
use Rattle.fvn_combine_nodes.specs.States.{is_apart}
use Rattle.fvn_combine_nodes.proofs.state.is_kept_apart.Given as goal

abbrev pub invariant-loop-k : goal.invariant-loop-k
invariant-loop-k l = is_apart (record { names = l.names; apart = l.fn.apart }) l.i l.j ≡ is_apart (record { names = l.names; apart = drop l.k-index l.apart }) l.i l.j
