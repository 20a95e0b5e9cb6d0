-- A variable without a pair is bound.
use Rattle.std.proofs.Common.{sym, ◌∙◌}
use Rattle.fvn_refine.proofs.Resorted.{unbound}
use Rattle.fvn_refine.proofs.resorting.with_resorted.Goals as goal

pub with_pair-requires : goal.with_pair-requires
with_pair-requires c = unbound _ (sym c.is_bound.ensures ∙ c.if-is_bound.false)
