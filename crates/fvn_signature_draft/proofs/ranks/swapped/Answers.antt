-- The swapped ranks, with one rank more.
use Rattle.std.proofs.Common.{◌≡◌, ◌++◌, [], ◌∷◌, ap, sym, ◌∙◌, ◌+◌, List, length, take}
use Rattle.std.proofs.lemmas.List.{take_more, append-nil}
use Rattle.fvn_terms.specs.declared.declarations.Rank.{Rank}
use Rattle.fvn_forms.specs.SortOrder.{sort_number}
use Rattle.fvn_forms.specs.Ranks.{swapped_args, swapped_ranks}
use Rattle.fvn_signature_draft.proofs.Serving.{swapped_ranks-push, swapped_args-other, swapped_args-two}
use Rattle.fvn_signature_draft.proofs.ranks.swapped.Goals as goal
use Rattle.fvn_signature_draft.proofs.ranks.swapped.Goals.{then-args-eq2+in_ok-turned+in_ok-push, else-args-eq2}

pub loop-rank-preserved : goal.loop-rank-preserved
loop-rank-preserved c =
    let rank : Rank = c.rank-item.result in
    let so_far : List Rank = take c.loop-rank.rank-index c.args.ranks.now in
    let more : take (c.loop-rank.rank-index + 1) c.args.ranks.now ≡ so_far ++ rank ∷ [] = take_more c.args.ranks.now c.loop-rank.rank-index rank c.loop-rank-test.true ∙ ap (λ r. so_far ++ r ∷ []) (sym c.rank-item.is) in
    let pushed : swapped_ranks (take (c.loop-rank.rank-index + 1) c.args.ranks.now) ≡ swapped_ranks so_far ++ swapped_args rank.args rank.result = ap swapped_ranks more ∙ swapped_ranks-push so_far rank in
    let two = sort_number 0 in
    elim c.if-args-eq2.branch [
      | then-args-eq2+in_ok-turned+in_ok-push w ↦
          let last = swapped_args-two rank.args rank.result two (ap length (sym c.as_slice-args.ensures) ∙ w.if-args-eq2.true) in
          rw (w.all-is, w.in_ok-push.ensures.items, c.loop-rank.invariant, pushed, last, w.from_vec.ensures, w.in_ok-turned.ensures.items, c.as_slice-args.ensures)
      | else-args-eq2 w ↦
          let last = swapped_args-other rank.args rank.result (λ e. w.if-args-eq2.false (ap length c.as_slice-args.ensures ∙ e)) in
          rw (w.all-is, c.loop-rank.invariant, pushed, last) (sym (append-nil (swapped_ranks so_far)))
    ]
