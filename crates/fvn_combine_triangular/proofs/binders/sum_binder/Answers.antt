-- One more operator.
use Rattle.std.proofs.Common.{◌<◌, length, sym, ap, ◌∙◌, arith}
use Rattle.std.proofs.lemmas.Bool.{false≢true}
use Rattle.std.proofs.lemmas.Option.{slice_get_within}
use Rattle.fvn_combine_nodes.specs.States.{class_of}
use Rattle.fvn_combine_admissible.specs.Listed.{tag_in}
use Rattle.fvn_combine_triangular.specs.inner.Planning.{IsBoundAt}
use Rattle.fvn_combine_triangular.proofs.Fronts.{none_more}
use Rattle.fvn_combine_triangular.proofs.BoundAt.{not_bound_here}
use Rattle.fvn_combine_triangular.proofs.binders.sum_binder.Goals as goal

pub loop-i-preserved : goal.loop-i-preserved
loop-i-preserved c =
    let d = c.args.sig.now in
    let t = c.args.table.now in
    let class = class_of c.args.state.now in
    let tag = tag_in c.args.tags.now in
    let sums = c.args.reading.now.sums in
    let list = c.as_slice.result.now in
    let within : c.loop-i.i < length list = let t = c.loop-i-test.true in let n = c.len-i-end.ensures in let a = ap length c.as_slice.ensures in omega (arith, t, n, a) in
    none_more (λ j. IsBoundAt d t class tag sums j c.args.k) c.loop-i.i c.loop-i.invariant
    (not_bound_here d t class tag sums list c.as_slice.ensures c.loop-i.i c.args.k c.index-as_slice-i.result within c.index-as_slice-i.is (λ b. false≢true (sym c.if-is_bound.false ∙ c.is_bound.ensures.1 b)))

pub returns : goal.returns
returns c = λ i b.
    let w = slice_get_within c.args.reading.now.sums i b.0 b.1 in
    let t = c.loop-i-test.false in
    let n = c.len-i-end.ensures in
    c.loop-i.invariant i (omega (arith, w, t, n)) b
