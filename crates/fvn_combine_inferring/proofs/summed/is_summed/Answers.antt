-- A member has it, and with it the class.
use Rattle.std.proofs.Common.{◌<◌, length, sym, ◌∙◌, subst, arith}
use Rattle.fvn_combine_inferring.proofs.Added.{member_some}
use Rattle.fvn_combine_inferring.proofs.summed.is_summed.Goals as goal

pub class_of-requires : goal.class_of-requires
class_of-requires c =
    let w = c.requires.closed.whole in
    let l : c.loop-i.i < length c.args.table.now.nodes = subst (λ ns. c.loop-i.i < length ns) c.nodes-i-end.ensures c.loop-i-test.true in
    omega (arith, w, l)

pub adds_summand-requires-clause-within : goal.adds_summand-requires-clause-within
adds_summand-requires-clause-within c = subst (λ ns. c.loop-i.i < length ns) c.nodes-i-end.ensures c.loop-i-test.true

pub returns-then-adds_summand : goal.returns-then-adds_summand
returns-then-adds_summand c t =
    member_some c.args.sig.now c.args.table.now c.args.state.now c.args.known.now.sorted c.args.f c.loop-i.i c.args.k (sym c.class_of.ensures ∙ c.if-class_of-class.false ∙ c.class_of-class.ensures)
    (c.adds_summand.ensures c.if-adds_summand.true)
