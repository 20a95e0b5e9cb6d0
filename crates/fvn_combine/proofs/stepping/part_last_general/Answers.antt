-- What is left of the last state has the nodes in two classes, as unifiers that stand for all have them.
use Rattle.std.proofs.Common.{◌≢◌, ℕ, ◌<◌, length, sym, subst, zero-le, None}
use Rattle.fvn_combine_tree.specs.Trees.{AreClosed, IsTakenOn}
use Rattle.fvn_combine.specs.Tasks.{Combining}
use Rattle.fvn_combine.specs.inner.Found.{IsStep}
use Rattle.fvn_combine.specs.declared.stepping.Step.TheVariants.{More}
use Rattle.fvn_combine.proofs.Less.{left_falls}
use Rattle.fvn_combine.proofs.Trees.{after_parting}
use Rattle.fvn_combine.proofs.stepping.part_last_general.Goals as goal

pub part-requires : goal.part-requires
part-requires c =
    let l = c.requires.looked in
    record {
      closed = subst (λ (k : Combining). AreClosed k.declarations k.table c.args.tree.now) (sym c.task.view_is) c.requires.closed;
      left = subst (λ (k : Combining). c.args.i < length k.table.nodes) (sym c.task.view_is) l.looked.0;
      right = subst (λ (k : Combining). c.args.j < length k.table.nodes) (sym c.task.view_is) l.looked.1;
      «open» = record { below = l.below; top = l.last; is = l.is; open_there = l.looked.2 };
    }

pub returns-clause-closed : goal.returns-clause-closed
returns-clause-closed c = subst (λ (k : Combining). AreClosed k.declarations k.table c.part.new.self) c.task.view_is c.part.ensures.closed

pub returns-clause-ordered : goal.returns-clause-ordered
returns-clause-ordered c = c.part.ensures.ordered c.requires.ordered

pub returns-clause-stepped : goal.returns-clause-stepped
returns-clause-stepped c =
    let k = c.args.task.now in
    let l = c.requires.looked in
    let Holds : (ℕ → ℕ) → Type 0 = λ class. class c.args.i ≢ class c.args.j in
    let taken = subst (λ (k : Combining). IsTakenOn k.declarations k.table Holds c.args.tree.now c.part.new.self) c.task.view_is c.in_ok-part.ensures.parted in
    let falls = c.in_ok-part.ensures.falls in
    subst (λ l. IsStep k c.args.tree.now c.args.leaf.now c.part.new.self l More) (sym c.close_leaf.ensures) (
      falls,
      tt,
      after_parting k c.recall.ensures c.unifiers_partition.ensures c.args.tree.now c.part.new.self Holds taken l.below l.last l.is c.more_general_is_a_preorder.ensures l.looked.3,
      left_falls k c.args.tree.now c.part.new.self c.args.leaf.now None falls zero-le,
    )
