-- the summands so far were taken away
use Rattle.std.proofs.Common.{◌≡◌, ◌+◌, length, take}
use Rattle.fvn_forms.specs.Flat.{FlatTerm}
use Rattle.fvn_forms.specs.InOrder.{count}
use Rattle.fvn_match.specs.inner.Tallies.{tally}
use Rattle.fvn_match.specs.inner.Summands.{references}
use Rattle.fvn_match.proofs.summands.take.Given as goal

abbrev pub invariant-loop-u : goal.invariant-loop-u
invariant-loop-u l = record {
  long : length l.left.items ≡ length l.initial.left.items;
  taken : (q : FlatTerm) → tally q (references l.pieces) l.left.items + count q (take l.u-index l.u-items) ≡ tally q (references l.pieces) l.initial.left.items;
}
