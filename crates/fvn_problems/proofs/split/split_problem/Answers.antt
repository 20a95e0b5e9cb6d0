-- A problem is pairs and an end.
use Rattle.std.proofs.Common.{sym, ap, subst, ◌∙◌}
use Rattle.fvn_problems.specs.Spelling.{equals}
use Rattle.fvn_problems.specs.inner.Split.{is_end, ArePairsSplit, BeginsWithNoPairs}
use Rattle.fvn_problems.proofs.TextSplits.{problem-split, problem-no-end, problem-no-pairs}
use Rattle.fvn_problems.proofs.split.split_problem.Goals as goal

pub returns-in-None-clause-none : goal.returns-in-None-clause-none
returns-in-None-clause-none c =
    let n = rw c.in-None.is at c.in_ok-split_pairs.ensures.none in
    problem-no-pairs c.args.row.now (subst (λ s. BeginsWithNoPairs equals s c.args.row.now) c.new-separator.ensures n)

pub returns-then-is_end-clause-some : goal.returns-then-is_end-clause-some
returns-then-is_end-clause-some c =
    let a = rw c.in-Some.is at c.in_ok-split_pairs.ensures.some in
    let b = subst (λ s. ArePairsSplit equals s c.args.row.now c.in-Some.list c.in-Some.rest) c.new-separator.ensures a in
    problem-split c.args.row.now c.in-Some.list c.in-Some.rest b (ap is_end (sym c.pieces.ensures) ∙ sym c.is_end.ensures ∙ c.if-is_end.true)

pub returns-clause-none : goal.returns-clause-none
returns-clause-none c =
    let a = rw c.in-Some.is at c.in_ok-split_pairs.ensures.some in
    let b = subst (λ s. ArePairsSplit equals s c.args.row.now c.in-Some.list c.in-Some.rest) c.new-separator.ensures a in
    problem-no-end c.args.row.now c.in-Some.list c.in-Some.rest b (ap is_end (sym c.pieces.ensures) ∙ sym c.is_end.ensures ∙ c.if-is_end.false)
