-- First arguments are nodes.
use Rattle.std.proofs.Common.{◌<◌, sym, subst}
use Rattle.fvn_purify.specs.inner.Options.{AreFirst}
use Rattle.fvn_purify.proofs.Firsts.{first_within}
use Rattle.fvn_purify.proofs.questions.open_first.Goals as goal

pub is_open-requires-clause-left : goal.is_open-requires-clause-left
is_open-requires-clause-left c =
    let h : AreFirst c.args.table.now (c.args.i, c.args.j) c.in-Some.x c.in-Some.y = c.in-Some.ensures in
    let l = first_within c.args.table.now c.recall_well_made.ensures.ordered c.args.i c.in-Some.x h.0 h.2 h.4 in
    subst (λ n. c.in-Some.x < n) (sym c.requires.whole) l

pub is_open-requires-clause-right : goal.is_open-requires-clause-right
is_open-requires-clause-right c =
    let h : AreFirst c.args.table.now (c.args.i, c.args.j) c.in-Some.x c.in-Some.y = c.in-Some.ensures in
    let l = first_within c.args.table.now c.recall_well_made.ensures.ordered c.args.j c.in-Some.y h.1 h.3 h.5 in
    subst (λ n. c.in-Some.y < n) (sym c.requires.whole) l

pub returns-in-None : goal.returns-in-None
returns-in-None c x y e h o = c.in-None.ensures x y h
