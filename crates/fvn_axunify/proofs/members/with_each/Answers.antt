-- One more unifier, or all are there.
use Rattle.std.proofs.Common.{◌≡◌, length, sym, ◌∙◌, subst, arith}
use Rattle.std.specs.Prelude.{All}
use Rattle.std.proofs.lemmas.List.{map-id}
use Rattle.std.proofs.lemmas.List.Elements.{All-push, All-weaker}
use Rattle.std.proofs.lemmas.Iterator.Adapters.{YieldsList-from_vec}
use Rattle.std.proofs.lemmas.Iterator.Consumers.{YieldsList-turn, YieldsList-end}
use Rattle.fvn_cover.proofs.Leftovers.{all_at}
use Rattle.fvn_flat.specs.Bindings.{Bindings}
use Rattle.fvn_axunify.specs.inner.Members.{IsMember, HasInstancesOf}
use Rattle.fvn_axunify.proofs.members.with_each.Goals as goal

pub with_unifier-requires-clause-member : goal.with_unifier-requires-clause-member
with_unifier-requires-clause-member c =
    let all = c.args.more.items in
    let r = c.in-Some.r in
    let gives = c.into_iter-r-iterator.ensures.into_iter_gives in
    let road = YieldsList-from_vec all gives.0 (gives.1 ∙ c.args.more.ok.0) in
    let turn = YieldsList-turn road c.loop-r.yielded c.loop-r.r-iterator c.loop-r.yielded_by c.next.result c.next.new.self r c.in-Some.is c.next.ensures.steps in
    all_at (IsMember c.args.task.now.sig.now c.args.task.now.problem.now c.args.task.now.first) all (length c.loop-r.yielded) r c.requires.members turn.0 turn.1

pub loop-r-preserved : goal.loop-r-preserved
loop-r-preserved c =
    let d = c.args.task.now.sig.now in
    let given = c.args.task.now.problem.now in
    let vars = c.args.task.now.vars.now in
    let w = c.in_ok-all.ensures in
    record {
      are = w.are;
      grows = λ u r. w.grows u (c.loop-r.invariant.grows u r);
      few = omega (arith, w.more, c.if-most-len.false, c.len.ensures);
      each = All-push (λ (s : Bindings). HasInstancesOf d given vars s c.in_ok-all.all) c.loop-r.yielded c.in-Some.r
          (All-weaker (λ (s : Bindings). HasInstancesOf d given vars s c.loop-r.all) (λ (s : Bindings). HasInstancesOf d given vars s c.in_ok-all.all) (λ s h u i. w.grows u (h u i)) c.loop-r.yielded c.loop-r.invariant.each)
          w.reached;
    }

pub returns : goal.returns
returns c =
    let all = c.args.more.items in
    let gives = c.into_iter-r-iterator.ensures.into_iter_gives in
    let road = YieldsList-from_vec all gives.0 (gives.1 ∙ c.args.more.ok.0) in
    let end = YieldsList-end road c.loop-r.yielded c.loop-r.r-iterator c.loop-r.yielded_by c.next.result c.next.new.self c.in-None.is c.next.ensures.steps in
    let whole : c.loop-r.yielded ≡ all = sym (map-id c.loop-r.yielded) ∙ end.0 in
    record {
      are = c.loop-r.invariant.are;
      grows = c.loop-r.invariant.grows;
      few = c.loop-r.invariant.few;
      each = λ less. subst (All (λ (s : Bindings). HasInstancesOf c.args.task.now.sig.now c.args.task.now.problem.now c.args.task.now.vars.now s c.loop-r.all)) whole c.loop-r.invariant.each;
    }
