-- The class stands apart.
use Rattle.std.proofs.Common.{slice_index, subst}
use Rattle.fvn_combine_leaves.specs.Users.{IsSharedIn}
use Rattle.fvn_combine_questions.proofs.labels.stands_apart_at.Goals as goal

pub returns : goal.returns
returns c = λ all. record {
  shared = subst (λ columns. IsSharedIn c.args.reading.now (slice_index columns c.args.i)) c.as_slice-columns.ensures (c.is_shared.ensures.0 c.if-not-is_shared.false);
  told = c.are_all_told.ensures all;
}
