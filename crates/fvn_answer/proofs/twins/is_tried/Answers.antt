-- No tip, or one goes before it.
use Rattle.std.proofs.Common.{sym, ◌∙◌}
use Rattle.fvn_answer.proofs.TwinTexts.{passed-other, passed-first, not-false}
use Rattle.fvn_answer.proofs.twins.is_tried.Goals as goal

pub returns-then-not-is_listed : goal.returns-then-not-is_listed
returns-then-not-is_listed c r =
    passed-other c.args.signature.now c.args.printed.now c.args.order.now c.args.k c.args.j c.args.tips.now _ c.requires.within (sym c.is_listed.ensures ∙ c.if-not-is_listed.true)

pub returns : goal.returns
returns c r =
    passed-first c.args.signature.now c.args.printed.now c.args.order.now c.args.k c.args.j c.args.tips.now _ c.requires.within (c.has_first.ensures (not-false c.has_first.result r))
