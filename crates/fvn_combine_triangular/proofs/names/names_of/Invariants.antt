-- The names of the nodes so far.
use Rattle.std.proofs.Common.{◌≡◌, ◌+◌}
use Rattle.fvn_combine_triangular.specs.inner.Planning.{no_name, IsNameAt}
use Rattle.fvn_combine_triangular.proofs.Fronts.{AreFront}
use Rattle.fvn_combine_triangular.proofs.names.names_of.Given as goal

abbrev pub invariant-loop-i : goal.invariant-loop-i
invariant-loop-i l = record {
  number : l.number ≡ l.first + l.i;
  names : AreFront no_name (IsNameAt l.sig l.table l.first) l.i l.names.items;
}
