-- The lists of direct subsorts, with one sort more.
use Rattle.std.proofs.Common.{sym}
use Rattle.fvn_signature.specs.Queries.{direct_subsorts}
use Rattle.fvn_signature.proofs.FirstSorts.{map_sorts-more}
use Rattle.fvn_signature.proofs.queries.subsorts.all_direct_subsorts.Goals as goal

pub loop-s-preserved : goal.loop-s-preserved
loop-s-preserved c = rw (c.in_ok-push.ensures.items, c.loop-s.invariant, c.from_vec.ensures, c.in_ok-direct_subsorts.ensures) (sym (map_sorts-more (direct_subsorts c.args.draft.now.declarations) c.loop-s.s))
