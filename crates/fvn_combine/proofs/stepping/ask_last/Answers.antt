-- The last state makes way for its answers, and what was to come is to come in them.
use Rattle.std.proofs.Common.{◌<◌, length, sym, subst, zero-le, None}
use Rattle.fvn_combine_tree.specs.Trees.{AreClosed, IsAsked}
use Rattle.fvn_combine.specs.Tasks.{Combining}
use Rattle.fvn_combine.specs.Search.{IsAdmitted, IsLeft}
use Rattle.fvn_combine.specs.inner.Found.{IsStep}
use Rattle.fvn_combine.specs.declared.stepping.Step.TheVariants.{More}
use Rattle.fvn_combine.proofs.Less.{left_falls}
use Rattle.fvn_combine.proofs.Standing.{holds_both}
use Rattle.fvn_combine.proofs.Trees.{after_asking}
use Rattle.fvn_combine.proofs.stepping.ask_last.Goals as goal

pub ask-requires : goal.ask-requires
ask-requires c =
    let l = c.requires.looked in
    record {
      closed = subst (λ (k : Combining). AreClosed k.declarations k.table c.args.tree.now) (sym c.task.view_is) c.requires.closed;
      left = subst (λ (k : Combining). c.args.i < length k.table.nodes) (sym c.task.view_is) l.looked.0;
      right = subst (λ (k : Combining). c.args.j < length k.table.nodes) (sym c.task.view_is) l.looked.1;
      «open» = record { below = l.below; top = l.last; is = l.is; open_there = l.looked.2 };
    }

pub returns-clause-closed : goal.returns-clause-closed
returns-clause-closed c = subst (λ (k : Combining). AreClosed k.declarations k.table c.ask.new.self) c.task.view_is c.ask.ensures.closed

pub returns-clause-ordered : goal.returns-clause-ordered
returns-clause-ordered c = c.ask.ensures.ordered c.requires.ordered

pub returns-clause-stepped : goal.returns-clause-stepped
returns-clause-stepped c =
    let k = c.args.task.now in
    let asked = subst (λ (k : Combining). IsAsked k.declarations k.table c.args.tree.now c.ask.new.self) c.task.view_is c.in_ok-ask.ensures.asked in
    let falls = c.in_ok-ask.ensures.falls in
    subst (λ l. IsStep k c.args.tree.now c.args.leaf.now c.ask.new.self l More) (sym c.close_leaf.ensures) (
      falls,
      tt,
      holds_both k (IsAdmitted k c.args.tree.now) (IsLeft k c.ask.new.self None) (after_asking k c.recall.ensures c.unifiers_partition.ensures c.args.tree.now c.ask.new.self asked),
      left_falls k c.args.tree.now c.ask.new.self c.args.leaf.now None falls zero-le,
    )
