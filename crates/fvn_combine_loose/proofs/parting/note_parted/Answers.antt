-- What is parted and open is noted.
use Rattle.std.proofs.Common.{sym, subst, All}
use Rattle.std.proofs.lemmas.List.Elements.{All-push}
use Rattle.fvn_combine_loose.specs.Loose.{ArePartedOpen}
use Rattle.fvn_combine_loose.proofs.parting.note_parted.Goals as goal

pub returns-then-are_parted_open : goal.returns-then-are_parted_open
returns-then-are_parted_open c =
    let P = ArePartedOpen c.args.sig.now c.args.table.now c.args.state.now c.args.sorted in
    subst (All P) (sym c.in_ok-push.ensures.items) (All-push P c.args.pairs.now.items (c.args.pair.0, c.args.pair.1) c.requires.noted (c.are_parted_open.ensures c.if-are_parted_open.true))
