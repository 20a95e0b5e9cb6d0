-- One rank more, which stands there before or does not.
use Rattle.std.proofs.Common.{List, refl, subst}
use Rattle.std.specs.List.{Contains}
use Rattle.fvn_terms.specs.declared.declarations.Rank.{Rank}
use Rattle.fvn_signature_draft.proofs.FoundAlike.{kept_at, pushed_at}
use Rattle.fvn_signature_draft.proofs.repeats.without_repeats.Goals as goal

pub loop-rank-preserved-then-is_listed : goal.loop-rank-preserved-then-is_listed
loop-rank-preserved-then-is_listed c =
    let r = c.rank-item.result in
    let listed = subst (λ (l : List Rank). Contains l r) c.as_slice.ensures.value (c.if-is_listed.ensures refl) in
    kept_at c.loop-rank.all.items c.args.ranks.now c.loop-rank.rank-index r c.loop-rank-test.true c.rank-item.is c.loop-rank.invariant listed

pub loop-rank-preserved : goal.loop-rank-preserved
loop-rank-preserved c = rw (c.in_ok-push.ensures.items, c.in_ok-copied.ensures) (pushed_at c.loop-rank.all.items c.args.ranks.now c.loop-rank.rank-index c.rank-item.result c.loop-rank-test.true c.rank-item.is c.loop-rank.invariant)
