-- what the marks or the sorts refuse is no covering
use Rattle.fvn_cover.proofs.keeping.Kept.is_covering.Goals as goal

pub returns-then-not-may_cover : goal.returns-then-not-may_cover
returns-then-not-may_cover c = (λ t. cc, λ h. absurd (c.may_cover.ensures c.if-not-may_cover.true h))
