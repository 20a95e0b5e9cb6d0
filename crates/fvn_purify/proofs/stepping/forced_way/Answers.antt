-- First arguments are nodes.
use Rattle.std.proofs.Common.{◌<◌, sym, subst}
use Rattle.fvn_purify.specs.inner.Options.{AreFirst}
use Rattle.fvn_purify.proofs.Firsts.{first_within}
use Rattle.fvn_purify.proofs.stepping.forced_way.Goals as goal

pub is_same-requires-in-Some-clause-left : goal.is_same-requires-in-Some-clause-left
is_same-requires-in-Some-clause-left c =
    let t = c.args.classes.now.table in
    let h : AreFirst t (c.args.i, c.args.j) c.in-Some.a c.in-Some.v = c.in-Some.ensures in
    subst (λ n. c.in-Some.a < n) (sym c.requires.whole) (first_within t c.recall_well_made.ensures.ordered c.args.i c.in-Some.a h.0 h.2 h.4)

pub is_same-requires-in-Some-clause-right : goal.is_same-requires-in-Some-clause-right
is_same-requires-in-Some-clause-right c =
    let t = c.args.classes.now.table in
    let h : AreFirst t (c.args.i, c.args.j) c.in-Some.a c.in-Some.v = c.in-Some.ensures in
    subst (λ n. c.in-Some.v < n) (sym c.requires.whole) (first_within t c.recall_well_made.ensures.ordered c.args.j c.in-Some.v h.1 h.3 h.5)
