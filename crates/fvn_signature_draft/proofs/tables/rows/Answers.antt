-- The rows, with one sort more.
use Rattle.std.proofs.Common.{[], ◌∷◌, map, sym}
use Rattle.fvn_forms.specs.Ranks.{result}
use Rattle.fvn_signature.specs.FirstSorts.{first_sorts}
use Rattle.fvn_signature.proofs.FirstSorts.{map_sorts-more}
use Rattle.fvn_signature_draft.proofs.tables.rows.Goals as goal

pub loop-s-preserved : goal.loop-s-preserved
loop-s-preserved c = rw (c.in_ok-push.ensures.items, c.loop-s.invariant, c.from_vec.ensures, c.in_ok-row.ensures) (sym (map_sorts-more (λ s. map (λ q. result c.args.draft.now.declarations c.args.op (s ∷ q ∷ [])) (first_sorts c.args.draft.now.total)) c.loop-s.s))
