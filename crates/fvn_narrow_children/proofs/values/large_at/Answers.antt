-- The form that is bound is too large, or it is not.
use Rattle.fvn_narrow_children.proofs.ValueFacts.{large_at_is, small_at_is, unbound_is_small}
use Rattle.fvn_narrow_children.proofs.values.large_at.Goals as goal

pub returns-then-size : goal.returns-then-size
returns-then-size c =
    large_at_is c.args.s.now c.args.size c.size.result c.args.x c.in-Some.t.now c.in_ok-copy-in-Some.copy (rw c.in-Some.is at c.get.ensures) c.in_ok-copy-in-Some.ensures c.size.ensures c.if-size.true

pub returns-else-size : goal.returns-else-size
returns-else-size c = small_at_is c.args.s.now c.args.size c.size.result c.args.x c.in-Some.t.now (rw c.in-Some.is at c.get.ensures) c.size.ensures c.if-size.false

pub returns-in-None : goal.returns-in-None
returns-in-None c = unbound_is_small c.args.s.now c.args.size c.args.x (rw c.in-None.is at c.get.ensures)
