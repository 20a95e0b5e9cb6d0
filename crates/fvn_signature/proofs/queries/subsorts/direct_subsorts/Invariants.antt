-- The invariant of the list of direct subsorts.
use Rattle.std.proofs.Common.{◌≡◌}
use Rattle.std.specs.Prelude.{filter}
use Rattle.fvn_signature.specs.FirstSorts.{first_sorts}
use Rattle.fvn_signature.specs.Queries.{is_direct}
use Rattle.fvn_signature.proofs.queries.subsorts.direct_subsorts.Given as goal

-- those among the first sorts
abbrev pub invariant-loop-t : goal.invariant-loop-t
invariant-loop-t l = l.list.items ≡ filter (is_direct l.draft.declarations l.s) (first_sorts l.t)
