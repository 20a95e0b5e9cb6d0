-- The status that goes with the end of an answer.
use Rattle.std.specs.Prelude.{zero, suc}
use Rattle.fvn_answer.specs.declared.end.End.{End}
use Rattle.fvn_answer.specs.declared.end.End.TheVariants.{Complete, Levels, Variants, Steps, Size, Basis, Unifiers, Sorts}
use Rattle.fvn_cmd.specs.declared.status.Status.{Status}
use Rattle.fvn_cmd.specs.declared.status.Status.TheVariants.{Solved, Nothing, Ended}

-- the status that goes with an end
abbrev pub status_of_end : End → Status
status_of_end (Complete zero) = Nothing
status_of_end (Complete (suc n)) = Solved
status_of_end (Levels n) = Ended
status_of_end (Variants n) = Ended
status_of_end (Steps n t) = Ended
status_of_end (Size n) = Ended
status_of_end (Basis f) = Ended
status_of_end (Unifiers n) = Ended
status_of_end (Sorts n) = Ended
