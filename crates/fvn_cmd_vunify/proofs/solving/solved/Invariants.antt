-- The solver whose answers are kept.
use Rattle.std.specs.Prelude.{Some}
use Rattle.fvn_cmd_vunify.proofs.solving.solved.Given as goal

abbrev pub ghosts-solved_keeping : goal.ghosts-solved_keeping
ghosts-solved_keeping g a = record { value = Some a.solver.now }
