-- All nodes are checked.
use Rattle.std.proofs.Common.{◌≡◌, ◌<◌, None, subst, sym, ap, ◌∙◌, slice_index_or}
use Rattle.fvn_combine_nodes.specs.States.{class_of}
use Rattle.fvn_combine_loose.specs.Loose.{height_of}
use Rattle.fvn_combine_loose.proofs.Checked.{positive}
use Rattle.fvn_combine_loose.proofs.Summed.{loose_by_sums}
use Rattle.fvn_combine_loose.proofs.summing.is_loose_by_sums.Goals as goal

pub returns-in-None : goal.returns-in-None
returns-in-None c t =
    let s = c.args.state.now in
    let z = c.args.draft.now.bottom in
    let is = c.height_at.ensures ∙ ap (λ l. height_of s l z) c.as_slice.ensures.value in
    let none = ap (λ l. slice_index_or l (class_of s z) None) (sym c.as_slice-2.ensures.value) ∙ sym c.sum_at.ensures ∙ c.in-None.is in
    loose_by_sums c.args.sig.now c.args.table.now s c.args.facts.now.sorted c.args.draft.now.heights.items c.args.draft.now.sums.items c.args.facts.now.fine.now z
    c.requires.facts.fine_nodes none (c.are_put.ensures t) c.requires.bottom (subst (λ n. 0 < n) is (positive c.height_at.result c.if-height_at-eq0.false))
