-- One pair more.
use Rattle.std.proofs.Common.{ℕ, sym, subst}
use Rattle.std.proofs.lemmas.List.Elements.{All-push}
use Rattle.fvn_combine_inferring.specs.Inferred.{IsEqualPair, AreEqualPairs}
use Rattle.fvn_combine_inferring.proofs.emptying.note_equal.Goals as goal

pub loop-k-preserved : goal.loop-k-preserved
loop-k-preserved c =
    let P : ℕ × ℕ → Type 0 = IsEqualPair c.args.sig.now c.args.table.now c.args.state.now c.args.sorted in
    let i = c.loop-k.k-index in
    subst (AreEqualPairs c.args.sig.now c.args.table.now c.args.state.now c.args.sorted) (sym c.in_ok-push.ensures.items)
    (All-push P c.loop-k.equal.items _ c.loop-k.invariant (c.requires.within i 0 c.loop-k-test.true, c.requires.right, c.requires.values i 0 c.loop-k-test.true))
