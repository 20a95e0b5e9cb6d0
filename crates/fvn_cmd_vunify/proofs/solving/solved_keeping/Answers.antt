-- The solver that keeps answers has the signature, the limits and the draws of the one that it asks.
use Rattle.std.proofs.Common.{sym, subst}
use Rattle.fvn_cmd_exploring.specs.Searches.{IsModuleSolver}
use Rattle.fvn_cmd_vunify.proofs.Explored.{solved_along}
use Rattle.fvn_cmd_vunify.proofs.solving.solved_keeping.Goals as goal

pub solved_with-requires-clause-solver : goal.solved_with-requires-clause-solver
solved_with-requires-clause-solver g c κs within =
    subst (λ s. IsModuleSolver (g.T.Searching.contents c.args.searching.now) (g.A.AxiomSolver.signature s) (g.A.AxiomSolver.most_unifiers s) (g.A.AxiomSolver.most_symbols s))
    (sym c.in_ok-keeping.ensures) c.requires.solver

pub returns : goal.returns
returns g c =
    solved_along (g.A.AxiomSolver.drawn) _ _ c.in_ok-keeping.ensures (g.T.Searching.contents c.args.searching.now) (g.T.Searching.reach c.args.searching.now) c.args.given.pairs c.in_ok-r.r c.in_ok-r.ensures
