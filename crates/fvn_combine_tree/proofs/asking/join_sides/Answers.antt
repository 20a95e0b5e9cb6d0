-- One more pair.
use Rattle.std.proofs.Common.{get_or, refl, arith}
use Rattle.fvn_combine_tree.specs.inner.Closing.{state_of}
use Rattle.fvn_combine_tree.proofs.Starting.{joined_none, joined_more}
use Rattle.fvn_combine_tree.proofs.asking.join_sides.Goals as goal

pub loop-l-init : goal.loop-l-init
loop-l-init c = joined_none (state_of c.args.closing.now) c.requires.naming

pub join-moved-requires : goal.join-moved-requires
join-moved-requires c =
    let w = c.loop-l.invariant.nodes.whole in
    let h = c.requires.sides c.loop-l.l-index (0, 0) c.loop-l-test.true in
    let a = h.0 in
    let b = h.1 in
    record { naming = c.loop-l.invariant.nodes.naming; left = omega arith; right = omega arith }

pub loop-l-preserved : goal.loop-l-preserved
loop-l-preserved c =
    let w = c.loop-l.invariant.nodes.whole in
    let i = c.loop-l.l-index in
    let h = c.requires.sides i (0, 0) c.loop-l-test.true in
    let a = h.0 in
    let b = h.1 in
    joined_more c.args.sides.now i (get_or c.args.sides.now i (0, 0)) c.loop-l-test.true refl (state_of c.args.closing.now) (state_of c.loop-l.closing) (state_of c.join-moved.new.self) c.join-moved.result c.requires.naming (omega arith, omega arith) c.loop-l.invariant c.join-moved.ensures.moved c.join-moved.ensures.no_clash c.join-moved.ensures.together
