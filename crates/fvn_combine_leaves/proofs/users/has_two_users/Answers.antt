-- One after the first.
use Rattle.std.proofs.Common.{sym, ◌∙◌}
use Rattle.fvn_combine_leaves.proofs.Using.{two_users}
use Rattle.fvn_combine_leaves.proofs.users.has_two_users.Goals as goal

pub returns-in-Some : goal.returns-in-Some
returns-in-Some c =
    let r = two_users c.args.sums.now c.args.k c.in-Some.i c.in-Some.ensures c.first_user-in-Some.result c.first_user-in-Some.ensures in
    (λ e. r.0 (sym c.is_some.ensures ∙ e), λ two. c.is_some.ensures ∙ r.1 two)
