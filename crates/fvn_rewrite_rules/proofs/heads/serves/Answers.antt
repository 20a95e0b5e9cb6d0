-- A rule serves where it is more general, or its right side is not larger.
use Rattle.fvn_rewrite_rules.proofs.Needed.{not_told}
use Rattle.fvn_rewrite_rules.proofs.heads.serves.Goals as goal

pub returns-then-not-general : goal.returns-then-not-general
returns-then-not-general c = λ h. absurd (not_told (c.in_ok-general.ensures.1 h) c.if-not-general.true)

pub returns-then-small : goal.returns-then-small
returns-then-small c = c.in_ok-general.ensures.0 c.if-not-general.false

pub returns-then-back : goal.returns-then-back
returns-then-back c = λ h. c.in_ok-back.ensures.0 c.if-back.true

pub returns : goal.returns
returns c = c.in_ok-general.ensures.0 c.if-not-general.false
