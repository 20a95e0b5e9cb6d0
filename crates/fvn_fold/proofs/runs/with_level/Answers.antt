-- one more variant
use Rattle.std.proofs.Common.{refl, ◌≡◌, ◌++◌, length, sym, ap, ◌∙◌}
use Rattle.std.proofs.lemmas.List.{map-id}
use Rattle.std.proofs.lemmas.Iterator.Adapters.{YieldsList-from_vec}
use Rattle.std.proofs.lemmas.Iterator.Consumers.{YieldsList-turn, YieldsList-end}
use Rattle.fvn_cover.specs.Covering.{IsFlatVariant}
use Rattle.fvn_cover.proofs.Leftovers.{all_at}
use Rattle.fvn_fold.proofs.Copies.{next_flat, last_more, all_more, with_next_is}
use Rattle.fvn_fold.proofs.runs.with_level.Goals as goal

pub copy-requires : goal.copy-requires
copy-requires c =
    let all = c.args.next.items in
    let k = c.in-Some.k in
    let gives = c.into_iter-k-iterator.ensures.into_iter_gives in
    let road = YieldsList-from_vec all gives.0 (gives.1 ∙ c.args.next.ok.0) in
    let turn = YieldsList-turn road c.loop-k.yielded c.loop-k.k-iterator c.loop-k.yielded_by c.next.result c.next.new.self k c.in-Some.is c.next.ensures.steps in
    rw c.variant.ensures (all_at (IsFlatVariant c.args.sig.now) all (length c.loop-k.yielded) k (next_flat c.args.sig.now c.args.run.kept.items all c.requires) turn.0 turn.1)

pub loop-k-preserved : goal.loop-k-preserved
loop-k-preserved c = (
  rw c.in_ok-push-2.ensures.items (last_more c.loop-k.last.items c.loop-k.yielded c.in-Some.k c.in_ok-member.member (c.in_ok-member.ensures ∙ c.variant.ensures) c.loop-k.invariant.0),
  rw c.in_ok-push.ensures.items (all_more c.args.run.kept.items c.loop-k.all.items c.loop-k.yielded c.in-Some.k c.in-Some.k refl c.loop-k.invariant.1),
)

pub returns : goal.returns
returns c =
    let all = c.args.next.items in
    let gives = c.into_iter-k-iterator.ensures.into_iter_gives in
    let road = YieldsList-from_vec all gives.0 (gives.1 ∙ c.args.next.ok.0) in
    let end = YieldsList-end road c.loop-k.yielded c.loop-k.k-iterator c.loop-k.yielded_by c.next.result c.next.new.self c.in-None.is c.next.ensures.steps in
    let whole : c.loop-k.yielded ≡ all = sym (map-id c.loop-k.yielded) ∙ end.0 in
    with_next_is c.args.run.done.items c.args.run.members.items c.args.run.kept.items c.args.depth c.args.next.items c.in_ok-above.above.items c.loop-k.last.items c.loop-k.all.items c.in_ok-above.ensures (c.loop-k.invariant.0 ∙ whole) (c.loop-k.invariant.1 ∙ ap (λ l. c.args.run.kept.items ++ l) whole)
