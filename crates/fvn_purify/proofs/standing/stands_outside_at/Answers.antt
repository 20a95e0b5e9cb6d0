-- The node stands under none there.

use Rattle.fvn_purify.proofs.standing.stands_outside_at.Goals as goal

pub returns-in-None : goal.returns-in-None
returns-in-None c = (λ z. cc, λ h. absurd (c.in-None.ensures h.0 h.1))
