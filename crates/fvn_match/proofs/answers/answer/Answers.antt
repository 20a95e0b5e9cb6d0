-- the value of one variable more
use Rattle.std.proofs.Common.{ap, ◌∙◌, get_or}
use Rattle.std.proofs.lemmas.List.{take_all, get_or_default}
use Rattle.fvn_flat.specs.Bindings.{value, bound}
use Rattle.fvn_match.specs.inner.Candidates.{pairs_of}
use Rattle.fvn_match.specs.inner.Goals.{bindings_of}
use Rattle.fvn_match.proofs.Matchers.{any_variable, not_yet_bound, pairs_more}
use Rattle.fvn_match.proofs.answers.answer.Goals as goal

pub with_value-requires : goal.with_value-requires
with_value-requires c =
    let vars = c.args.vars.now in
    let i = c.loop-x.x-index in
    let x = get_or vars i any_variable in
    ap (λ s. bound s x) c.loop-x.invariant
    ∙ not_yet_bound (value (bindings_of c.args.values.now)) vars i x c.requires c.loop-x-test.true (get_or_default vars i any_variable x c.loop-x-test.true)

pub loop-x-preserved : goal.loop-x-preserved
loop-x-preserved c =
    let vars = c.args.vars.now in
    let i = c.loop-x.x-index in
    let x = get_or vars i any_variable in
    c.in_ok-s.ensures
    ∙ pairs_more (value (bindings_of c.args.values.now)) vars i x c.loop-x.s c.loop-x.invariant c.loop-x-test.true (get_or_default vars i any_variable x c.loop-x-test.true)

pub returns : goal.returns
returns c = c.loop-x.invariant ∙ ap (λ l. pairs_of l (value (bindings_of c.args.values.now))) (take_all c.loop-x.x-index c.args.vars.now c.loop-x-test.false)
