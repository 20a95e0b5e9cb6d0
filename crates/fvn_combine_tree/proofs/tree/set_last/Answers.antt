-- The last state is overwritten.
use Rattle.std.proofs.Common.{◌≡◌, ◌-◌, length, set, ap, ◌∙◌, arith}
use Rattle.fvn_combine_tree.proofs.Growing.{set_last_is}
use Rattle.fvn_combine_tree.proofs.tree.set_last.Goals as goal

pub returns : goal.returns
returns c =
    let states = c.args.states.now in
    let last : c.len-last.result - 1 ≡ length states.items - 1 = ap (λ n. n - 1) (c.len-last.ensures ∙ states.ok.0) in
    let some = c.requires in
    ap (λ n. set states.items n c.args.state) last ∙ set_last_is states.items c.args.state (length states.items - 1) (omega (arith, some))
