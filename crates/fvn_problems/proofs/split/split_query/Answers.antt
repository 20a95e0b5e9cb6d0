-- A term text is a term and an end.
use Rattle.std.proofs.Common.{sym, ap, ◌∙◌}
use Rattle.fvn_problems.specs.inner.Split.{is_end}
use Rattle.fvn_problems.proofs.TextSplits.{query-split, query-no-end, query-no-term}
use Rattle.fvn_problems.proofs.split.split_query.Goals as goal

pub returns-in-None-clause-none : goal.returns-in-None-clause-none
returns-in-None-clause-none c = query-no-term c.args.row.now (rw c.in-None.is at c.in_ok-split_term.ensures.none)

pub returns-then-is_end-clause-some : goal.returns-then-is_end-clause-some
returns-then-is_end-clause-some c =
    let a = rw c.in-Some.is at c.in_ok-split_term.ensures.some in
    query-split c.args.row.now c.in-Some.term c.in-Some.rest a (ap is_end (sym c.pieces.ensures) ∙ sym c.is_end.ensures ∙ c.if-is_end.true)

pub returns-else-is_end-clause-none : goal.returns-else-is_end-clause-none
returns-else-is_end-clause-none c =
    let a = rw c.in-Some.is at c.in_ok-split_term.ensures.some in
    query-no-end c.args.row.now c.in-Some.term c.in-Some.rest a (ap is_end (sym c.pieces.ensures) ∙ sym c.is_end.ensures ∙ c.if-is_end.false)
