-- The shares of the operators so far.
use Rattle.std.proofs.Common.{◌≡◌, ◌+◌, ◌*◌, [], map}
use Rattle.fvn_acunify.specs.declared.limits.TheConstants.{LISTED_SOLUTIONS}
use Rattle.fvn_combine_nodes.specs.States.{class_of}
use Rattle.fvn_combine_admissible.specs.Listed.{tag_in}
use Rattle.fvn_combine_triangular.proofs.Fronts.{AreFront}
use Rattle.fvn_combine_triangular.proofs.Sharing.{AreSharesAt}
use Rattle.fvn_combine_triangular.proofs.shares.all_shares.Given as goal

abbrev pub invariant-loop-i : goal.invariant-loop-i
invariant-loop-i l = record {
  next : l.next ≡ l.fn.start + LISTED_SOLUTIONS * l.i;
  shares : AreFront [] (AreSharesAt l.fn.sig l.fn.table (class_of l.fn.state) (tag_in l.fn.tags) l.fn.reading.sums l.fn.bases l.fn.numbers l.fn.names l.fn.start) l.i (map (λ w. w.items) l.all.items);
}
