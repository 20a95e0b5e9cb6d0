-- The solver that keeps answers has the signature, the limits and the draws of the one that it asks.
use Rattle.std.proofs.Common.{sym, subst}
use Rattle.fvn_cmd_exploring.specs.Searches.{IsExploredBy, IsModuleSolver}
use Rattle.fvn_cmd_variants.proofs.searching.searched_keeping.Goals as goal

pub searched_with-requires-clause-solver : goal.searched_with-requires-clause-solver
searched_with-requires-clause-solver g c κs within =
    subst (λ s. IsModuleSolver (g.T.Searching.contents c.args.searching.now) (g.A.AxiomSolver.signature s) (g.A.AxiomSolver.most_unifiers s) (g.A.AxiomSolver.most_symbols s))
    (sym c.in_ok-keeping.ensures) c.requires.solver

pub returns : goal.returns
returns g c =
    subst (λ s. IsExploredBy (g.T.Searching.contents c.args.searching.now) (g.T.Searching.reach c.args.searching.now) (g.A.AxiomSolver.drawn s) c.args.start.now c.in_ok-x.x) c.in_ok-keeping.ensures c.in_ok-x.ensures
