-- The class of the node.
use Rattle.std.proofs.Common.{sym}
use Rattle.fvn_combine_inferring.proofs.expressions.unit_class.Goals as goal

pub returns-in-Some : goal.returns-in-Some
returns-in-Some c = (c.in-Some.n, c.in-Some.ensures.unit, c.in-Some.ensures.within, sym c.class_of.ensures)
