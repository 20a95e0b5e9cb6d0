-- The variable is there, or put at the end.
use Rattle.std.proofs.Common.{subst}
use Rattle.std.specs.Prelude.{Contains}
use Rattle.fvn_combine_triangular.proofs.Notes.{listed_already, listed_last}
use Rattle.fvn_combine_triangular.proofs.order.add_var.Goals as goal

pub returns-then-is_listed : goal.returns-then-is_listed
returns-then-is_listed c = listed_already c.args.vars.now.items c.args.x (subst (λ l. Contains l c.args.x) c.as_slice.ensures.value (c.is_listed.ensures.0 c.if-is_listed.true))

pub returns : goal.returns
returns c = listed_last c.args.vars.now.items c.push.new.self.items c.args.x c.in_ok-push.ensures.items
