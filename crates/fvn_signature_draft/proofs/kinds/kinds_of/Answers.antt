-- The kinds of the sorts, and after them the kinds themselves.
use Rattle.std.proofs.Common.{◌≡◌, ◌≤◌, ◌+◌, ◌-◌, ◌++◌, map, ap, ◌∙◌, arith, append_assoc, ℕ}
use Rattle.std.specs.List.{range_with_len}
use Rattle.std.proofs.lemmas.List.FromFn.{map-range_with_len_more}
use Rattle.fvn_forms.specs.SortOrder.{sort_number}
use Rattle.fvn_signature.specs.FirstSorts.{first_sorts}
use Rattle.fvn_signature_draft.specs.Collected.{kinds, kind_of, parts_before}
use Rattle.fvn_signature_draft.proofs.kinds.kinds_of.Goals as goal

pub loop-k-preserved : goal.loop-k-preserved
loop-k-preserved c =
    let n : ℕ = c.args.collected.now.sorts in
    let from : n ≤ c.loop-k.k = omega arith in
    let at : n + (c.loop-k.k - n) ≡ c.loop-k.k = omega arith in
    let count : c.loop-k.k + 1 - n ≡ (c.loop-k.k - n) + 1 = omega arith in
    let more = map-range_with_len_more sort_number n (c.loop-k.k - n) c.loop-k.k at in
    rw (c.in_ok-push.ensures.items, c.loop-k.invariant, count, more, append_assoc)

pub returns : goal.returns
unfolding kinds
returns c =
    let n : ℕ = c.args.collected.now.sorts in
    let next : c.in_ok-kinds.field-0.next ≡ n + parts_before c.args.collected.now n = c.in_ok-kinds.ensures.next in
    let count : c.loop-k.k - n ≡ parts_before c.args.collected.now n = omega arith in
    c.loop-k.invariant ∙ ap (λ k. map (kind_of c.args.collected.now) (first_sorts n) ++ map sort_number (range_with_len n k)) count
