-- Two bound forms that are one.
use Rattle.std.proofs.Common.{sym, ap, ◌∙◌}
use Rattle.fvn_flat.specs.Bindings.{form_or}
use Rattle.fvn_narrow_children.proofs.values.is_as_before.Goals as goal

pub returns : goal.returns
returns c same = ap (form_or c.args.x) (rw c.in-Some.is at c.get.ensures) ∙ c.same.ensures.exact.0 same ∙ sym (ap (form_or c.args.x) (rw c.in-Some-get.is at c.get-2.ensures))
