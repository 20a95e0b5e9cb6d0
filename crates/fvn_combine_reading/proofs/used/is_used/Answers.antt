-- One more row.
use Rattle.std.proofs.Common.{sym, ◌∙◌}
use Rattle.std.proofs.lemmas.Bool.{false≢true}
use Rattle.fvn_combine_reading.proofs.Marking.{row_long, none_more}
use Rattle.fvn_combine_reading.proofs.used.is_used.Goals as goal

pub is_other-requires : goal.is_other-requires
is_other-requires c = row_long c.args.rows.now c.args.j c.requires c.loop-row.row-index c.row-item.result c.loop-row-test.true c.row-item.is

pub loop-row-preserved : goal.loop-row-preserved
loop-row-preserved c = none_more c.args.rows.now c.args.j c.loop-row.row-index c.row-item.result c.loop-row-test.true c.row-item.is (λ other. false≢true (sym c.if-is_other.false ∙ c.is_other.ensures.1 other)) c.loop-row.invariant
