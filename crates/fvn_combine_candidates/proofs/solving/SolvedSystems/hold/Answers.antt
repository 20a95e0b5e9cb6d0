-- One more system is held.
use Rattle.std.proofs.Common.{sym, subst, All}
use Rattle.std.proofs.lemmas.List.Elements.{All-push}
use Rattle.fvn_combine_candidates.specs.inner.Solved.{IsSolved}
use Rattle.fvn_combine_candidates.proofs.solving.SolvedSystems.hold.Goals as goal

pub invariant_of-self-2 : goal.invariant_of-self-2
invariant_of-self-2 c =
    subst (All IsSolved) (sym c.in_ok-push.ensures.items)
    (All-push IsSolved c.make_room.new.list.items c.in_ok-entry.entry c.make_room.ensures c.in_ok-entry.ensures)
