-- The equation of the number.
use Rattle.std.proofs.Common.{◌↔◌, IsTrue}
use Rattle.fvn_terms.specs.Plain.{term}
use Rattle.fvn_theory.specs.declared.equation.Equation.{Equation}
use Rattle.fvn_rewrite_laws.specs.Choices.{InstancesFit}
use Rattle.fvn_cohere.proofs.Firsts.{of_found}
use Rattle.fvn_cohere.proofs.fitting.instances_fit.Goals as goal

pub returns : goal.returns
returns c =
    let d = c.args.sig.now in
    let e : Equation = c.equation_at-e.result.now in
    of_found (λ (q : Equation). IsTrue c.in_ok-fit.fit ↔ InstancesFit d (term q.left)) c.args.equations.now c.args.number e c.equation_at-e.ensures c.in_ok-fit.ensures
