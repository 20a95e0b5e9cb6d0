-- Under one operator, and under another of another theory.
use Rattle.std.proofs.Common.{sym, subst}
use Rattle.fvn_purify.specs.Theories.{StandsOutside}
use Rattle.fvn_purify.proofs.Firsts.{two_outside}
use Rattle.fvn_purify.proofs.standing.stands_in_two.Goals as goal

pub returns-in-None : goal.returns-in-None
returns-in-None c = (λ z. cc, λ h. absurd (c.in-None.ensures h.operator h.under))

pub returns-in-Some : goal.returns-in-Some
returns-in-Some c = (
  λ z. record { operator = c.in-Some.f; under = c.in-Some.ensures; outside = subst (StandsOutside c.args.sig.now c.args.table.now c.args.i) c.theory.ensures (c.stands_outside.ensures.0 z) },
  λ h. c.stands_outside.ensures.1 (subst (StandsOutside c.args.sig.now c.args.table.now c.args.i) (sym c.theory.ensures) (two_outside c.args.sig.now c.args.table.now c.args.i c.in-Some.f h)),
)
