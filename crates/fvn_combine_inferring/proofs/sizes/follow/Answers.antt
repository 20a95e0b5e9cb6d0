-- One class more is noted.
use Rattle.std.proofs.Common.{sym, subst}
use Rattle.fvn_combine_inferring.specs.inner.Sizes.{IsNoted}
use Rattle.fvn_combine_inferring.proofs.Sizing.{note_more, mark_followed}
use Rattle.fvn_combine_inferring.proofs.sizes.follow.Goals as goal

pub returns : goal.returns
returns c w k said h =
    note_more w k c.args.marks.now c.note.new.marks c.args.pair.now.large c.followed.result c.note.ensures
    (subst (IsNoted w k c.args.pair.now.large) (sym c.followed.ensures)
    (mark_followed w k c.args.pair.now c.noted-mark.result c.if-mark-eq0.false said (subst (IsNoted w k c.args.pair.now.small) (sym c.noted-mark.ensures) (h c.args.pair.now.small)))) h
