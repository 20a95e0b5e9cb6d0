-- The last state admits no unifier, and nothing is lost with it.
use Rattle.std.proofs.Common.{sym, subst, zero-le, None}
use Rattle.fvn_combine.specs.Search.{IsAdmitted, IsLeft}
use Rattle.fvn_combine.specs.inner.Found.{IsStep}
use Rattle.fvn_combine.specs.declared.looking.Looked.TheVariants.{Passed}
use Rattle.fvn_combine.specs.declared.stepping.Step.TheVariants.{More}
use Rattle.fvn_combine.proofs.Less.{left_falls}
use Rattle.fvn_combine.proofs.Standing.{holds_both}
use Rattle.fvn_combine.proofs.Trees.{closed_before, taken_out, taken_falls, after_passing}
use Rattle.fvn_combine.proofs.stepping.pass_last.Goals as goal

pub returns-clause-closed : goal.returns-clause-closed
returns-clause-closed c =
    let k = c.args.task.now in
    let l = c.requires.looked in
    closed_before k c.args.tree.now c.take_top-last.new.self l.last (taken_out k c.args.tree.now c.take_top-last.new.self Passed l c.take_top-last.result c.take_top-last.ensures.taken) c.requires.closed

pub returns-clause-ordered : goal.returns-clause-ordered
returns-clause-ordered c = c.take_top-last.ensures.ordered c.requires.ordered

pub returns-clause-stepped : goal.returns-clause-stepped
returns-clause-stepped c =
    let k = c.args.task.now in
    let l = c.requires.looked in
    let e = taken_out k c.args.tree.now c.take_top-last.new.self Passed l c.take_top-last.result c.take_top-last.ensures.taken in
    let falls = taken_falls k c.args.tree.now c.take_top-last.new.self Passed l c.take_top-last.result c.take_top-last.ensures.taken c.take_top-last.ensures.falls in
    subst (λ l. IsStep k c.args.tree.now c.args.leaf.now c.take_top-last.new.self l More) (sym c.close_leaf.ensures) (
      falls,
      tt,
      holds_both k (IsAdmitted k c.args.tree.now) (IsLeft k c.take_top-last.new.self None) (after_passing k c.args.tree.now c.take_top-last.new.self l e),
      left_falls k c.args.tree.now c.take_top-last.new.self c.args.leaf.now None falls zero-le,
    )
