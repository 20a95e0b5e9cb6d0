-- The pairs of one more statement are joined.
use Rattle.std.proofs.Common.{length, sym, subst, ◌∙◌, take}
use Rattle.std.specs.List.{range_with_len}
use Rattle.std.proofs.lemmas.List.{take_all}
use Rattle.std.proofs.lemmas.List.FromFn.{length-range_with_len}
use Rattle.fvn_module_names.specs.Order.{pairs_in}
use Rattle.fvn_module_names.specs.inner.Joining.{IsJoinedBy}
use Rattle.fvn_module_names.proofs.JoinLemmas.{joined-both}
use Rattle.fvn_module_names.proofs.Partitions.{all_pairs, partition}
use Rattle.fvn_module_names.proofs.OrderLemmas.{all_pairs-more}
use Rattle.fvn_module_names.proofs.order.join_statements.Goals as goal

pub join_statement-requires : goal.join_statement-requires
join_statement-requires c = c.loop-statement.invariant.as_long ∙ length-range_with_len 0 (length c.args.sorts.now)

pub loop-statement-preserved : goal.loop-statement-preserved
loop-statement-preserved c =
    let more = all_pairs-more c.args.sorts.now c.args.statements.now c.loop-statement.statement-index c.statement-item.result c.loop-statement-test.true c.statement-item.is in
    subst (IsJoinedBy (range_with_len 0 (length c.args.sorts.now)) c.in_ok-classes-2.classes) (sym more)
    (joined-both (range_with_len 0 (length c.args.sorts.now)) c.loop-statement.classes c.in_ok-classes-2.classes (all_pairs c.args.sorts.now (take c.loop-statement.statement-index c.args.statements.now)) (pairs_in c.args.sorts.now c.statement-item.result) c.loop-statement.invariant c.in_ok-classes-2.ensures)

pub returns : goal.returns
returns c = partition c.args.sorts.now c.args.statements.now c.loop-statement.classes (rw (take_all c.loop-statement.statement-index c.args.statements.now c.loop-statement-test.false) at c.loop-statement.invariant)
