-- One more node.
use Rattle.std.proofs.Common.{◌+◌, [], ◌∷◌, length, get_or, ap, ◌∙◌, below_more, arith}
use Rattle.std.proofs.lemmas.List.{get_or_append_left, get_or_push, length_push}
use Rattle.fvn_combine_tree.proofs.asking.singles.Goals as goal

pub loop-i-preserved : goal.loop-i-preserved
loop-i-preserved c =
    let items = c.loop-i.names.items in
    let i = c.loop-i.i in
    let grown = c.in_ok-push.ensures.items in
    let many = c.loop-i.invariant.many in
    record {
      many = ap length grown ∙ length_push items i ∙ ap (λ n. n + 1) many;
      own = below_more _ _ (λ k h. ap (λ l. get_or l k 0) grown ∙ get_or_append_left items (i ∷ []) 0 k (omega arith) ∙ c.loop-i.invariant.own k h) (ap (λ l. get_or l i 0) grown ∙ get_or_push items i 0 i many);
    }
