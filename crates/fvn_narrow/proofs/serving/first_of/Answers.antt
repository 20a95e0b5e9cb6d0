-- The arguments, parted.
use Rattle.std.proofs.Common.{sym, ◌∙◌}
use Rattle.fvn_narrow.proofs.serving.first_of.Goals as goal

pub returns : goal.returns
returns c = sym c.args-2.ensures.exact ∙ c.in-Some.ensures.cases.0
