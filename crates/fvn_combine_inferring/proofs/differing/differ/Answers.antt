-- They are kept apart, or have two heads.
use Rattle.std.proofs.Common.{List, length, ap, subst, arith, Option}
use Rattle.fvn_terms.specs.declared.plain.OpId.{OpId}
use Rattle.fvn_combine_nodes.specs.States.{class_of}
use Rattle.fvn_combine_inferring.specs.inner.Bounds.{HaveTwoHeads}
use Rattle.fvn_combine_inferring.proofs.Values.{name_within, heads_differ}
use Rattle.fvn_combine_inferring.proofs.differing.differ.Goals as goal

pub are_apart-requires : goal.are_apart-requires
are_apart-requires c =
    let w = c.requires.closed.whole in
    let i = c.requires.left in
    let j = c.requires.right in
    record { naming = c.requires.closed.naming; left = omega (arith, w, i); right = omega (arith, w, j) }

pub returns-then-are_apart : goal.returns-then-are_apart
returns-then-are_apart c t values go = go.go.differ c.args.i c.args.j c.requires.left c.requires.right (c.are_apart.ensures c.if-are_apart.true)

pub have_two_heads-requires : goal.have_two_heads-requires
have_two_heads-requires c =
    let n = c.requires.heads.as_many in
    let e = ap length c.as_slice.ensures.value in
    let a = name_within c.args.sig.now c.args.table.now c.args.state.now c.requires.closed c.args.i c.requires.left in
    let b = name_within c.args.sig.now c.args.table.now c.args.state.now c.requires.closed c.args.j c.requires.right in
    let p = c.class_of.ensures in
    let q = c.class_of-2.ensures in
    record { left = omega (arith, n, a, p, e); right = omega (arith, n, b, q, e) }

pub returns-then-have_two_heads : goal.returns-then-have_two_heads
returns-then-have_two_heads c t values go =
    let heads = c.args.known.now.heads.items in
    let told = subst (λ (l : List (Option OpId)). HaveTwoHeads l c.class_of.result c.class_of-2.result) c.as_slice.ensures.value (c.have_two_heads.ensures c.if-have_two_heads.true) in
    heads_differ c.args.sig.now c.args.table.now c.args.state.now c.requires.closed c.args.known.now.sorted heads c.requires.heads values go c.args.i c.args.j c.requires.left c.requires.right
    (subst (λ k. HaveTwoHeads heads k (class_of c.args.state.now c.args.j)) c.class_of.ensures (subst (λ k. HaveTwoHeads heads c.class_of.result k) c.class_of-2.ensures told))
