-- Nothing is noted at first.
use Rattle.std.proofs.Common.{sym, subst, All}
use Rattle.std.proofs.lemmas.List.Elements.{All-nil}
use Rattle.fvn_combine_loose.specs.Loose.{ArePartedOpen}
use Rattle.fvn_combine_loose.proofs.parting.open_identities.Goals as goal

pub loop-i-init : goal.loop-i-init
loop-i-init c =
    let P = ArePartedOpen c.args.sig.now c.args.table.now c.args.state.now c.args.sorted in
    subst (All P) (sym c.new-pairs.ensures.items) (All-nil P)

pub returns-then-is_empty : goal.returns-then-is_empty
returns-then-is_empty c =
    let P = ArePartedOpen c.args.sig.now c.args.table.now c.args.state.now c.args.sorted in
    subst (All P) (sym c.new-pairs.ensures.items) (All-nil P)
