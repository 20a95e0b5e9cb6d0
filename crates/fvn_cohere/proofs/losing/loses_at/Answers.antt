-- The equation of the number.
use Rattle.fvn_terms.specs.Plain.{term}
use Rattle.fvn_theory.specs.declared.equation.Equation.{Equation}
use Rattle.fvn_cohere.specs.Promises.{LosesAs}
use Rattle.fvn_cohere.proofs.Firsts.{kinded, readable_at, of_found}
use Rattle.fvn_cohere.proofs.losing.loses_at.Goals as goal

pub loses-requires : goal.loses-requires
loses-requires c =
    let e : Equation = c.equation_at-e.result.now in
    kinded c.args.sig.now e (readable_at c.args.sig.now c.args.equations.now c.args.number e c.requires.number c.equation_at-e.ensures c.requires.readable)

pub returns : goal.returns
returns c =
    let d = c.args.sig.now in
    let e : Equation = c.equation_at-e.result.now in
    of_found (λ (q : Equation). LosesAs d (term q.left) (term q.right) c.in_ok-found.found) c.args.equations.now c.args.number e c.equation_at-e.ensures c.in_ok-found.ensures
