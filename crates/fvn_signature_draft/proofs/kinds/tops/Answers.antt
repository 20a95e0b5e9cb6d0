-- One more top.
use Rattle.std.proofs.Common.{◌≡◌, ◌≤◌, ◌+◌, ◌-◌, [], ◌∷◌, map, sym, arith, ℕ}
use Rattle.std.proofs.lemmas.List.{map-append}
use Rattle.std.specs.List.{range_with_len}
use Rattle.fvn_forms.specs.SortOrder.{sort_number}
use Rattle.fvn_signature_draft.specs.Tops.{top_in}
use Rattle.std.proofs.lemmas.List.FromFn.{map-range_with_len_more}
use Rattle.fvn_signature_draft.proofs.kinds.tops.Goals as goal

pub loop-k-preserved : goal.loop-k-preserved
loop-k-preserved c =
    let n : ℕ = c.args.collected.now.sorts in
    let from : n ≤ c.loop-k.k = omega arith in
    let at : n + (c.loop-k.k - n) ≡ c.loop-k.k = omega arith in
    let count : c.loop-k.k + 1 - n ≡ (c.loop-k.k - n) + 1 = omega arith in
    rw (c.in_ok-push.ensures.items, c.loop-k.invariant, count, map-range_with_len_more sort_number n (c.loop-k.k - n) c.loop-k.k at, c.top_in.ensures)
    (sym (map-append (top_in c.args.collected.now) (map sort_number (range_with_len n (c.loop-k.k - n))) (sort_number c.loop-k.k ∷ [])))
