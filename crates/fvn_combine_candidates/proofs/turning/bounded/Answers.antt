-- Where sorts are not heeded there are no bounds.
use Rattle.std.proofs.Common.{sym, ◌∙◌, ap, subst}
use Rattle.std.proofs.lemmas.Bool.{false≢true}
use Rattle.fvn_acunify.specs.Cursor.{Cursor}
use Rattle.fvn_combine_nodes.specs.States.{class_of}
use Rattle.fvn_combine_bounds.specs.Bounding.{AreBounds}
use Rattle.fvn_combine_candidates.proofs.turning.bounded.Goals as goal

pub returns-then-not-sorted-clause-bounds : goal.returns-then-not-sorted-clause-bounds
returns-then-not-sorted-clause-bounds c = record {
  heeded = λ e. absurd (false≢true (sym c.if-not-sorted.true ∙ e));
  none = λ _. c.requires.unbounded;
}

pub returns-clause-bounds : goal.returns-clause-bounds
returns-clause-bounds c = record {
  heeded = λ _. subst (AreBounds c.args.sig.now c.args.table.now (class_of c.args.state.now) c.args.sums.now) (sym (ap (λ (k : Cursor). k.bounds) c.list_within.ensures)) c.in_ok-bounds.ensures;
  none = λ e. absurd (false≢true (sym e ∙ c.if-not-sorted.false));
}
