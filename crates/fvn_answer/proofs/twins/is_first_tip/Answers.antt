-- A tip, and one that goes before the other.
use Rattle.std.proofs.Common.{sym, ◌∙◌}
use Rattle.fvn_answer.proofs.Collecting.{listed-only}
use Rattle.fvn_answer.proofs.twins.is_first_tip.Goals as goal

pub returns : goal.returns
returns c r = (listed-only c.args.tips.now c.args.y (sym c.is_listed.ensures ∙ c.if-not-is_listed.false), c.goes_first.ensures r)
