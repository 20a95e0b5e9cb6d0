-- A member has them, and with it the class.
use Rattle.std.proofs.Common.{◌<◌, length, sym, ◌∙◌, subst, arith}
use Rattle.fvn_combine_inferring.proofs.EitherHead.{member_either}
use Rattle.fvn_combine_inferring.proofs.possible.member_heads.Goals as goal

pub class_of-requires : goal.class_of-requires
class_of-requires c =
    let w = c.requires.closed.whole in
    let l : c.loop-i.i < length c.args.table.now.nodes = subst (λ ns. c.loop-i.i < length ns) c.nodes-i-end.ensures c.loop-i-test.true in
    omega (arith, w, l)

pub node_heads-requires-clause-within : goal.node_heads-requires-clause-within
node_heads-requires-clause-within c = subst (λ ns. c.loop-i.i < length ns) c.nodes-i-end.ensures c.loop-i-test.true

pub returns-in-Some : goal.returns-in-Some
returns-in-Some c =
    member_either c.args.sig.now c.args.table.now c.args.state.now c.args.known.now.sorted c.loop-i.i c.args.k (sym c.class_of.ensures ∙ c.if-class_of-class.false ∙ c.class_of-class.ensures) c.in-Some.p c.in-Some.ensures
