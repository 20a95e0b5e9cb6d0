-- The term of a term text is well-kinded, and its variables are known.
use Rattle.fvn_problems.proofs.QueryTexts.{query-kinded, query-vars}
use Rattle.fvn_problems.proofs.laws.queries_are_kinded.Goals as goal

pub returns : goal.returns
returns c = λ d names fit bytes q is.
    (query-kinded d names bytes c.terms_are_well_kinded.ensures fit q is, query-vars d names bytes c.terms_are_well_kinded.ensures fit q is)
