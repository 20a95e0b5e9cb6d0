-- One state is pushed, and then the last one before is overwritten.
use Rattle.std.proofs.Common.{◌≡◌, ◌-◌, [], ◌∷◌, ◌++◌, length, set, ap, ◌∙◌, arith}
use Rattle.fvn_combine_tree.proofs.Growing.{set_last_two_is}
use Rattle.fvn_combine_tree.proofs.tree.set_last_two.Goals as goal

pub returns-clause-ok : goal.returns-clause-ok
returns-clause-ok c =
    let states = c.args.states.now in
    let first = c.args.first in
    let last : c.len-last.result - 1 ≡ length states.items - 1 = ap (λ n. n - 1) (c.len-last.ensures ∙ states.ok.0) in
    let some = c.requires in
    ap (λ l. set l (c.len-last.result - 1) first) c.in_ok-push.ensures.items
    ∙ ap (λ n. set (states.items ++ c.args.second ∷ []) n first) last
    ∙ set_last_two_is states.items first c.args.second (length states.items - 1) (omega (arith, some))
