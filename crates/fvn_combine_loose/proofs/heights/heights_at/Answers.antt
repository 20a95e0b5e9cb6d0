-- What is loose without sums is so by some sums.
use Rattle.std.proofs.Common.{[], subst}
use Rattle.std.specs.Prelude.{IfSome}
use Rattle.fvn_combine_loose.specs.inner.Checks.{IsLooseBy}
use Rattle.fvn_combine_loose.proofs.heights.heights_at.Goals as goal

pub returns-in-Some : goal.returns-in-Some
returns-in-Some c =
    let h : IsLooseBy c.args.sig.now c.args.table.now c.args.state.now c.args.z c.in-Some.heights =
    subst (λ o. IfSome o (IsLooseBy c.args.sig.now c.args.table.now c.args.state.now c.args.z)) c.in-Some.is c.in_ok-found.ensures in
    record { as_many = h.0; bottom = c.args.z; sums = []; loose = h.1 c.args.facts.now.sorted }
