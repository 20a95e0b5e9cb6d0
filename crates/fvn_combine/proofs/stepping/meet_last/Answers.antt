-- What is left of the last state has the nodes of each pair in one class, as all unifiers have them.
use Rattle.std.proofs.Common.{◌<◌, length, All, sym, subst, zero-le, None}
use Rattle.fvn_combine_tree.specs.Trees.{AreClosed, SomeOpenAtTop, AreMet, IsTakenOn}
use Rattle.fvn_combine.specs.Tasks.{Combining}
use Rattle.fvn_combine.specs.Search.{IsAdmitted, IsLeft}
use Rattle.fvn_combine.specs.inner.Found.{IsStep}
use Rattle.fvn_combine.specs.declared.stepping.Step.TheVariants.{More}
use Rattle.fvn_combine.proofs.Less.{left_falls}
use Rattle.fvn_combine.proofs.Standing.{holds_both}
use Rattle.fvn_combine.proofs.Trees.{after_taking_on}
use Rattle.fvn_combine.proofs.stepping.meet_last.Goals as goal

pub meet-requires : goal.meet-requires
meet-requires c =
    let l = c.requires.looked in
    let m = l.looked in
    let pairs = sym c.as_slice.ensures.value in
    record {
      closed = subst (λ (k : Combining). AreClosed k.declarations k.table c.args.tree.now) (sym c.task.view_is) c.requires.closed;
      within = subst (λ (k : Combining). All (λ p. (p.0 < length k.table.nodes) × (p.1 < length k.table.nodes)) c.as_slice.result.now) (sym c.task.view_is)
          (subst (All (λ p. (p.0 < length c.args.task.now.table.nodes) × (p.1 < length c.args.task.now.table.nodes))) pairs m.within);
      some_open = subst (SomeOpenAtTop c.args.tree.now) pairs (m.some_open.0, m.some_open.1, m.some_open.2, record { below = l.below; top = l.last; is = l.is; open_there = m.some_open.3 });
    }

pub returns-clause-closed : goal.returns-clause-closed
returns-clause-closed c = subst (λ (k : Combining). AreClosed k.declarations k.table c.meet.new.self) c.task.view_is c.meet.ensures.closed

pub returns-clause-ordered : goal.returns-clause-ordered
returns-clause-ordered c = c.meet.ensures.ordered c.requires.ordered

pub returns-clause-stepped : goal.returns-clause-stepped
returns-clause-stepped c =
    let k = c.args.task.now in
    let l = c.requires.looked in
    let Holds = AreMet c.args.pairs.items in
    let taken = subst (λ (k : Combining). IsTakenOn k.declarations k.table Holds c.args.tree.now c.meet.new.self) c.task.view_is (subst (λ pairs. IsTakenOn c.task.inside.sig.now c.task.inside.table (AreMet pairs) c.args.tree.now c.meet.new.self) c.as_slice.ensures.value c.in_ok-meet.ensures.met) in
    let falls = c.in_ok-meet.ensures.falls in
    subst (λ l. IsStep k c.args.tree.now c.args.leaf.now c.meet.new.self l More) (sym c.close_leaf.ensures) (
      falls,
      tt,
      holds_both k (IsAdmitted k c.args.tree.now) (IsLeft k c.meet.new.self None)
          (after_taking_on k c.recall.ensures c.unifiers_partition.ensures c.args.tree.now c.meet.new.self Holds taken l.below l.last l.is l.looked.met),
      left_falls k c.args.tree.now c.meet.new.self c.args.leaf.now None falls zero-le,
    )
