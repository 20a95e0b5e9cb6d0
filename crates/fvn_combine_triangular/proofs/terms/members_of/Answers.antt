-- One more share.
use Rattle.std.proofs.Common.{◌≡◌, ℕ, List, length, map, slice_index_or, sym, ap, ◌∙◌, subst}
use Rattle.fvn_flat.specs.SolvedLists.{members}
use Rattle.fvn_combine_triangular.specs.inner.Planning.{part_of}
use Rattle.fvn_combine_triangular.proofs.Members.{members_more, members_all}
use Rattle.fvn_combine_triangular.proofs.terms.members_of.Goals as goal

pub loop-share-preserved : goal.loop-share-preserved
loop-share-preserved c =
    let whole = members c.args.columns.now (map part_of c.args.shares.now) c.args.k in
    let sized = subst (λ s. length s.solution ≡ length c.args.columns.now) (sym c.share-item.is) (c.requires c.loop-share.share-index c.share-item.result c.loop-share-test.true) in
    let count = c.part_at-count.ensures ∙ ap (λ (v : List ℕ). slice_index_or v c.column_of-column.result 0) c.as_slice.ensures ∙ sym (c.column_of-column.ensures c.share-item.result.solution sized) in
    members_more c.args.columns.now c.args.shares.now c.loop-share.share-index c.args.k c.part_at-count.result c.share-item.result c.loop-share.terms.items c.add_copies.new.terms.items whole c.loop-share-test.true c.share-item.is count c.in_ok-add_copies.ensures c.loop-share.invariant

pub returns : goal.returns
returns c = members_all c.args.columns.now c.args.shares.now c.loop-share.share-index c.args.k c.loop-share.terms.items _ c.loop-share-test.false c.loop-share.invariant
