-- What is promised of unifiers holds of the lines that are shown.
use Rattle.fvn_cmd_unify.proofs.Shown.{shown_lines_keep}
use Rattle.fvn_cmd_unify.proofs.laws.shown_lines_keep_the_promise.Goals as goal

pub returns : goal.returns
returns c = shown_lines_keep c.loaded_modules_are_good.ensures c.problems_are_kinded.ensures c.lines_denote_unifiers.ensures
