-- One pair more, or none.
use Rattle.std.proofs.Common.{ℕ, sym, subst}
use Rattle.std.proofs.lemmas.List.Elements.{All-push}
use Rattle.fvn_combine_inferring.specs.Inferred.{IsEqualPair, IsInferred, AreEqualPairs}
use Rattle.fvn_combine_inferring.proofs.idle.note_met.Goals as goal

pub returns-in_ok-push-in-Together : goal.returns-in_ok-push-in-Together
returns-in_ok-push-in-Together c =
    let d = c.args.sig.now in
    let t = c.args.table.now in
    let s = c.args.state.now in
    let P : ℕ × ℕ → Type 0 = IsEqualPair d t s c.args.sorted in
    let must = subst (IsInferred d t s c.args.sorted) c.in-Together.is c.requires.told in
    subst (AreEqualPairs d t s c.args.sorted) (sym c.in_ok-push-in-Together.ensures.items)
    (All-push P c.args.equal.now.items _ c.requires.equal (must.open_pair.left, must.open_pair.right, must.equal))
