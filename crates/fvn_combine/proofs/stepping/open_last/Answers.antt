-- The last state is a leaf, and what it admits is to come at it.
use Rattle.std.proofs.Common.{sym, subst, Option, Some}
use Rattle.fvn_combine.specs.inner.Found.{IsStep}
use Rattle.fvn_combine.specs.declared.opened.Leaf.{Leaf}
use Rattle.fvn_combine.specs.declared.stepping.Step.TheVariants.{More}
use Rattle.fvn_combine.proofs.Less.{left_falls}
use Rattle.fvn_combine.proofs.Trees.{closed_before, leaf_opened, after_opening}
use Rattle.fvn_combine.proofs.stepping.open_last.Goals as goal

pub returns-in-Some-clause-closed : goal.returns-in-Some-clause-closed
returns-in-Some-clause-closed c = closed_before c.args.task.now c.args.tree.now c.take_top.new.self c.in-Some.state c.in-Some.ensures.taken c.requires.closed

pub returns-in-Some-clause-ordered : goal.returns-in-Some-clause-ordered
returns-in-Some-clause-ordered c = c.take_top.ensures.ordered c.requires.ordered

pub returns-in-Some-clause-stepped : goal.returns-in-Some-clause-stepped
returns-in-Some-clause-stepped c =
    let k = c.args.task.now in
    let l = c.requires.looked in
    let leaf : Option Leaf = Some (record { state = c.in-Some.state; opened = c.args.opened }) in
    subst (λ l. IsStep k c.args.tree.now c.args.leaf.now c.take_top.new.self l More) (sym c.open_leaf.ensures) (
      c.in-Some.ensures.falls,
      leaf_opened k c.args.tree.now c.take_top.new.self c.args.opened l c.in-Some.state c.in-Some.ensures.taken,
      after_opening k c.args.tree.now c.take_top.new.self c.args.opened l c.in-Some.state c.in-Some.ensures.taken c.recall.ensures c.more_general_is_a_preorder.ensures,
      left_falls k c.args.tree.now c.take_top.new.self c.args.leaf.now leaf c.in-Some.ensures.falls l.looked.2,
    )
