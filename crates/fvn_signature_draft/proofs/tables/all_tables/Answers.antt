-- The tables, with one operator more.
use Rattle.std.proofs.Common.{ap, ◌∙◌, ◌+◌}
use Rattle.std.proofs.lemmas.List.{length_push}
use Rattle.fvn_signature_draft.proofs.TableLemmas.{more_tables}
use Rattle.fvn_signature_draft.proofs.tables.all_tables.Goals as goal

pub loop-op-preserved : goal.loop-op-preserved
loop-op-preserved c = record {
  as_long = rw (c.in_ok-push.ensures.items) (length_push c.loop-op.all.items c.from_vec.result ∙ ap (λ k. k + 1) c.loop-op.invariant.as_long);
  tables = rw (c.in_ok-push.ensures.items, c.from_vec.ensures) (more_tables c.args.draft.now.declarations c.args.draft.now.total c.loop-op.all.items c.in_ok-more.more.items c.loop-op.op c.loop-op.invariant.as_long c.loop-op.invariant.tables c.in_ok-more.ensures);
}
