-- The class is among the nodes, and no other operator makes its value a sum.
use Rattle.std.proofs.Common.{List, length, sym, ap, subst, arith, All}
use Rattle.fvn_combine_nodes.specs.declared.table.Node.{Node}
use Rattle.fvn_combine_leaves.specs.Users.{IsWhole, IsWholeSums}
use Rattle.fvn_combine_leaves.specs.declared.reading.Sums.{Sums}
use Rattle.fvn_combine_leaves.proofs.ReadOfState.{reading_whole}
use Rattle.fvn_combine_inferring.specs.inner.Labels.{IsAside}
use Rattle.fvn_combine_inferring.proofs.Values.{name_within}
use Rattle.fvn_combine_inferring.proofs.Labels.{of_no_other}
use Rattle.fvn_combine_inferring.proofs.labelling.label_at.Goals as goal

pub is_shared-requires : goal.is_shared-requires
is_shared-requires c =
    let d = c.args.sig.now in
    let t = c.args.table.now in
    let s = c.args.state.now in
    let m = name_within d t s c.requires.closed c.args.k c.requires.within in
    let n = ap length c.nodes-n.ensures in
    let e = c.class_of.ensures in
    record {
      whole = subst (λ (ns : List Node). IsWhole (length ns) c.args.reading.now) (sym c.nodes-n.ensures) (reading_whole d t c.recall_well_made.ensures s c.requires.closed c.args.reading.now c.requires.reading);
      within = omega (arith, m, n, e);
    }

pub head_at-requires : goal.head_at-requires
head_at-requires c =
    let w = c.requires.closed.whole in
    let k = c.requires.within in
    let n = c.requires.heads.as_many in
    let e = ap length c.as_slice.ensures.value in
    let m = name_within c.args.sig.now c.args.table.now c.args.state.now c.requires.closed c.args.k c.requires.within in
    record { within = omega (arith, w, k); heads = omega (arith, n, m, e) }

pub are_aside-requires : goal.are_aside-requires
are_aside-requires c =
    let d = c.args.sig.now in
    let t = c.args.table.now in
    let whole = reading_whole d t c.recall_well_made.ensures c.args.state.now c.requires.closed c.args.reading.now c.requires.reading in
    record { whole = subst (λ (ns : List Node). All (IsWholeSums (length ns)) c.as_slice-in-Some.result.now) (sym c.nodes-n.ensures) (subst (λ (l : List Sums). All (IsWholeSums (length t.nodes)) l) (sym c.as_slice-in-Some.ensures) whole.sums) }

pub returns-else-not-are_aside : goal.returns-else-not-are_aside
returns-else-not-are_aside c =
    let d = c.args.sig.now in
    let s = c.args.state.now in
    let k = c.args.k in
    let p = c.in-Some.p in
    let told = subst (λ (l : List Sums). All (IsAside d c.class_of-in-Some.result p) l) c.as_slice-in-Some.ensures (c.are_aside.ensures c.if-not-are_aside.false) in
    of_no_other d c.args.table.now c.recall_well_made.ensures s c.requires.closed c.args.reading.now c.requires.reading c.args.known.now.sorted k p c.in-Some.ensures (subst (λ n. All (IsAside d n p) c.args.reading.now.sums) c.class_of-in-Some.ensures told)
