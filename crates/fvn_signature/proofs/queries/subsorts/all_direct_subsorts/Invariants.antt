-- The invariant of the lists of direct subsorts.
use Rattle.std.proofs.Common.{◌≡◌, map}
use Rattle.fvn_signature.specs.FirstSorts.{first_sorts}
use Rattle.fvn_signature.specs.Queries.{direct_subsorts}
use Rattle.fvn_signature.proofs.queries.subsorts.all_direct_subsorts.Given as goal

-- those of the first sorts
abbrev pub invariant-loop-s : goal.invariant-loop-s
invariant-loop-s l = l.all.items ≡ map (direct_subsorts l.draft.declarations) (first_sorts l.s)
