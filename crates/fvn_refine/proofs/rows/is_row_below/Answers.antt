-- Rows of other lengths are not below.
use Rattle.std.proofs.Common.{sym}
use Rattle.fvn_forms.specs.SortOrder.{at_or_below}
use Rattle.fvn_refine.proofs.RowTests.{pass_together-length}
use Rattle.fvn_refine.proofs.rows.is_row_below.Goals as goal

pub returns-then-row-other : goal.returns-then-row-other
returns-then-row-other c = sym (pass_together-length (at_or_below c.args.sig.now) c.args.row.now c.args.other.now c.if-row-other.true)
