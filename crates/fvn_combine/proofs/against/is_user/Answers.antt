-- It is the one at this place.
use Rattle.std.proofs.Common.{sym, ◌∙◌, subst, Contains}
use Rattle.std.proofs.lemmas.List.Elements.{Contains-get_or}
use Rattle.fvn_forms.proofs.Sums.{same_op_is}
use Rattle.fvn_combine.proofs.against.is_user.Goals as goal

pub returns-then-eq : goal.returns-then-eq
returns-then-eq c t = subst (Contains c.args.users.now) (same_op_is _ c.args.g (sym c.eq.ensures ∙ c.if-eq.true)) (Contains-get_or c.args.users.now c.loop-f.f-index _ c.loop-f-test.true)
