-- The solver whose answers are kept.
use Rattle.std.specs.Prelude.{Some}
use Rattle.fvn_cmd_variants.proofs.searching.searched.Given as goal

abbrev pub ghosts-searched_keeping : goal.ghosts-searched_keeping
ghosts-searched_keeping g a = record { value = Some a.solver.now }
