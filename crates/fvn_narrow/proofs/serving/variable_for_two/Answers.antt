-- A variable and others, which are behind two in the other form.
use Rattle.std.proofs.Common.{sym, ◌∙◌}
use Rattle.fvn_narrow.proofs.Served.{two_for}
use Rattle.fvn_narrow.proofs.serving.variable_for_two.Goals as goal

pub returns : goal.returns
returns c =
    let x = c.in-Some-as_var.x in
    two_for c.args.left.now c.args.other.now c.in-Some.first.now c.in-Some.others.now c.in-Some-behind_two.last.now x c.in-Some.ensures c.in-Some-behind_two.ensures (sym c.as_var.ensures ∙ c.in-Some-as_var.is)
    (sym c.is_empty.ensures ∙ c.if-is_empty.false) (c.are_same-alike.ensures c.if-not-alike.false) (c.stands_in_none-outside.ensures c.if-not-outside.false)
