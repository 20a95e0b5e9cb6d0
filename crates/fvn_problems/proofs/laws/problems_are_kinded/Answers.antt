-- The sides of a problem have one kind, and its variables are known.
use Rattle.fvn_problems.proofs.ProblemTexts.{problem-kinded, problem-vars}
use Rattle.fvn_problems.proofs.laws.problems_are_kinded.Goals as goal

pub returns : goal.returns
returns c = λ d names fit bytes p is.
    (problem-kinded d names bytes c.terms_are_well_kinded.ensures fit p is, problem-vars d names bytes c.terms_are_well_kinded.ensures fit p is)
