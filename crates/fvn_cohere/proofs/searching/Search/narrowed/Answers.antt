-- One variable more.
use Rattle.std.proofs.Common.{subst, ◌∙◌}
use Rattle.std.specs.List.{AllZip}
use Rattle.std.proofs.lemmas.List.{take_all}
use Rattle.fvn_cohere.specs.inner.Narrowing.{IsNarrowed}
use Rattle.fvn_cohere.proofs.Narrowed.{narrowed_next, narrowed_from}
use Rattle.fvn_cohere.proofs.searching.Search.narrowed.Goals as goal

pub loop-v-preserved : goal.loop-v-preserved
loop-v-preserved c =
    narrowed_next c.args.self.now c.args.self.now.unchosen.now c.loop-v.some.items c.push.new.self.items c.loop-v.v-index c.v-item.result _ c.loop-v-test.true c.v-item.is c.in_ok-push.ensures.items c.loop-v.invariant
    (narrowed_from c.args.self.now c.v-item.result c.as_slice.result.now c.as_slice-in-loop-v.result.now c.in_ok-kept.kept.items c.from_vec.result
    (c.as_slice.ensures.value ∙ c.in_ok-rest.ensures) c.as_slice-in-loop-v.ensures c.from_vec.ensures c.in_ok-kept.ensures)

pub returns : goal.returns
returns c = subst (λ l. AllZip (IsNarrowed c.args.self.now) l c.loop-v.some.items) (take_all c.loop-v.v-index c.args.self.now.unchosen.now c.loop-v-test.false) c.loop-v.invariant
