-- one more term
use Rattle.std.proofs.Common.{arith}
use Rattle.fvn_cover_counts.proofs.Profiling.{notes_one}
use Rattle.fvn_cover_counts.proofs.walking.with_all_symbols.Goals as goal

pub loop-t-preserved : goal.loop-t-preserved
loop-t-preserved c = (
  omega (arith, c.loop-t.invariant.0),
  notes_one c.args.rows.items c.loop-t.all.items _ c.args.terms.now c.loop-t.t-index c.t-item.result c.args.first c.loop-t-test.true c.t-item.is c.loop-t.invariant.1 (rw c.loop-t.invariant.0 at c.in_ok-all.ensures),
)
