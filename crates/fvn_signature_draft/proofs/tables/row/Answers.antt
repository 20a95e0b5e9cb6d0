-- A row, with one sort more.
use Rattle.std.proofs.Common.{[], ◌∷◌, sym}
use Rattle.fvn_forms.specs.Ranks.{result}
use Rattle.fvn_signature.proofs.FirstSorts.{map_sorts-more}
use Rattle.fvn_signature_draft.proofs.tables.row.Goals as goal

pub loop-q-preserved : goal.loop-q-preserved
loop-q-preserved c = rw (c.in_ok-push.ensures.items, c.loop-q.invariant, c.result_by.ensures) (sym (map_sorts-more (λ q. result c.args.draft.now.declarations c.args.op (c.args.s ∷ q ∷ [])) c.loop-q.q))
