-- The equation of the number.
use Rattle.fvn_terms.specs.Plain.{term}
use Rattle.fvn_theory.specs.declared.equation.Equation.{Equation}
use Rattle.fvn_cohere.specs.Promises.{CollapsesAs}
use Rattle.fvn_cohere.proofs.Firsts.{readable_at, of_found}
use Rattle.fvn_cohere.proofs.collapsing.left_collapses.Goals as goal

pub collapses-requires : goal.collapses-requires
collapses-requires c =
    let e : Equation = c.equation_at-e.result.now in
    let h = readable_at c.args.sig.now c.args.equations.now c.args.number e c.requires.number c.equation_at-e.ensures c.requires.readable in
    (h.kind, h.left)

pub returns : goal.returns
returns c =
    let d = c.args.sig.now in
    let e : Equation = c.equation_at-e.result.now in
    of_found (λ (q : Equation). CollapsesAs d (term q.left) c.in_ok-collapse.collapse) c.args.equations.now c.args.number e c.equation_at-e.ensures c.in_ok-collapse.ensures
