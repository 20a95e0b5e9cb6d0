-- The class of each column is a node.
use Rattle.std.proofs.Common.{◌<◌, length, sym, subst, All}
use Rattle.fvn_combine_candidates.proofs.Entries.{of_entry}
use Rattle.fvn_combine_candidates.proofs.alive.has_apart.Goals as goal

pub are_known_apart-requires-clause-right : goal.are_known_apart-requires-clause-right
are_known_apart-requires-clause-right c =
    subst (λ xs. All (λ n. n < length c.args.state.now.names) xs) (sym c.as_slice-c-items.ensures) c.requires.within c.loop-c.c-index 0 c.loop-c-test.true
