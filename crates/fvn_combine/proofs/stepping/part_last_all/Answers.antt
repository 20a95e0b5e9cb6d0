-- What is left of the last state has the nodes of each pair in two classes, as unifiers that stand for all have them.
use Rattle.std.proofs.Common.{◌<◌, length, All, sym, subst, zero-le, None}
use Rattle.fvn_combine_tree.specs.Trees.{AreClosed, SomeOpenAtTop, AreKeptApart, IsTakenOn}
use Rattle.fvn_combine.specs.Tasks.{Combining}
use Rattle.fvn_combine.specs.inner.Found.{IsStep}
use Rattle.fvn_combine.specs.declared.stepping.Step.TheVariants.{More}
use Rattle.fvn_combine.proofs.Less.{left_falls}
use Rattle.fvn_combine.proofs.Trees.{after_parting}
use Rattle.fvn_combine.proofs.stepping.part_last_all.Goals as goal

pub part_all-requires : goal.part_all-requires
part_all-requires c =
    let l = c.requires.looked in
    let m = l.looked in
    let pairs = sym c.as_slice.ensures.value in
    record {
      closed = subst (λ (k : Combining). AreClosed k.declarations k.table c.args.tree.now) (sym c.task.view_is) c.requires.closed;
      within = subst (λ (k : Combining). All (λ p. (p.0 < length k.table.nodes) × (p.1 < length k.table.nodes)) c.as_slice.result.now) (sym c.task.view_is)
          (subst (All (λ p. (p.0 < length c.args.task.now.table.nodes) × (p.1 < length c.args.task.now.table.nodes))) pairs m.within);
      some_open = subst (SomeOpenAtTop c.args.tree.now) pairs (m.some_open.0, m.some_open.1, m.some_open.2, record { below = l.below; top = l.last; is = l.is; open_there = m.some_open.3 });
    }

pub returns-clause-closed : goal.returns-clause-closed
returns-clause-closed c = subst (λ (k : Combining). AreClosed k.declarations k.table c.part_all.new.self) c.task.view_is c.part_all.ensures.closed

pub returns-clause-ordered : goal.returns-clause-ordered
returns-clause-ordered c = c.part_all.ensures.ordered c.requires.ordered

pub returns-clause-stepped : goal.returns-clause-stepped
returns-clause-stepped c =
    let k = c.args.task.now in
    let l = c.requires.looked in
    let Holds = AreKeptApart c.args.pairs.items in
    let taken = subst (λ (k : Combining). IsTakenOn k.declarations k.table Holds c.args.tree.now c.part_all.new.self) c.task.view_is (subst (λ pairs. IsTakenOn c.task.inside.sig.now c.task.inside.table (AreKeptApart pairs) c.args.tree.now c.part_all.new.self) c.as_slice.ensures.value c.in_ok-part_all.ensures.parted) in
    let falls = c.in_ok-part_all.ensures.falls in
    subst (λ l. IsStep k c.args.tree.now c.args.leaf.now c.part_all.new.self l More) (sym c.close_leaf.ensures) (
      falls,
      tt,
      after_parting k c.recall.ensures c.unifiers_partition.ensures c.args.tree.now c.part_all.new.self Holds taken l.below l.last l.is c.more_general_is_a_preorder.ensures l.looked.parted,
      left_falls k c.args.tree.now c.part_all.new.self c.args.leaf.now None falls zero-le,
    )
