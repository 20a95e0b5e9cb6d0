-- What is seen first.
use Rattle.std.proofs.Common.{inl, inr}
use Rattle.fvn_weights.proofs.FitTests.{contradicts}
use Rattle.fvn_weights.proofs.comparing.shown_by.Goals as goal
use Rattle.fvn_weights.proofs.comparing.shown_by.Goals.{After-grows-more}
use Rattle.fvn_weights.specs.inner.Forms.{AreOver}

-- neither form has a number that is too large
neither : (c : After-grows-more) → AreOver c.args.left.now c.args.right.now → ⊥
neither c (inl h) = contradicts c.is_over_form-first.result (c.is_over_form-first.ensures.1 h) c.if-first.false
neither c (inr h) = contradicts c.is_over_form-second.result (c.is_over_form-second.ensures.1 h) c.if-second.false

pub returns-then-first : goal.returns-then-first
returns-then-first c = inl (c.is_over_form-first.ensures.0 c.if-first.true)

pub returns-then-second : goal.returns-then-second
returns-then-second c = inr (c.is_over_form-second.ensures.0 c.if-second.true)

pub returns-then-more : goal.returns-then-more
returns-then-more c = (neither (goal.at.returns-then-more c).After-grows-more, c.grows-more.ensures.0 c.if-more.true)

pub returns : goal.returns
returns c = (neither (goal.at.returns c).After-grows-more, λ g. contradicts c.grows-more.result (c.grows-more.ensures.1 g) c.if-more.false)
