-- No pairs at first.
use Rattle.std.proofs.Common.{sym, subst}
use Rattle.fvn_rewrite_rules.specs.inner.Making.{AreSorted}
use Rattle.fvn_rewrite_rules.proofs.Sorted.{none_sorted}
use Rattle.fvn_rewrite_rules.proofs.guessing.without_others.Goals as goal

pub loop-x-init : goal.loop-x-init
loop-x-init c = subst (AreSorted c.args.sig.now) (sym c.empty-s.ensures) (none_sorted c.args.sig.now)
