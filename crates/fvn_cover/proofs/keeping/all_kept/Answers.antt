-- each of the list is flat
use Rattle.std.proofs.Common.{length, ◌∙◌}
use Rattle.std.proofs.lemmas.Iterator.Adapters.{YieldsList-from_vec}
use Rattle.std.proofs.lemmas.Iterator.Consumers.{YieldsList-turn}
use Rattle.fvn_cover.specs.Covering.{IsFlatVariant}
use Rattle.fvn_cover.proofs.Leftovers.{all_at}
use Rattle.fvn_cover.proofs.keeping.all_kept.Goals as goal

pub new-requires : goal.new-requires
new-requires c =
    let all = c.args.list.items in
    let v = c.in-Some.v in
    let gives = c.into_iter-v-iterator.ensures.into_iter_gives in
    let road = YieldsList-from_vec all gives.0 (gives.1 ∙ c.args.list.ok.0) in
    let turn = YieldsList-turn road c.loop-v.yielded c.loop-v.v-iterator c.loop-v.yielded_by c.next.result c.next.new.self v c.in-Some.is c.next.ensures.steps in
    all_at (IsFlatVariant c.args.sig.now) all (length c.loop-v.yielded) v c.requires turn.0 turn.1
