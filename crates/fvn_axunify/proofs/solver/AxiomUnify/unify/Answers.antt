-- What is asked.
use Rattle.std.proofs.Common.{sym, subst}
use Rattle.fvn_flat.specs.Solving.{IsGiven}
use Rattle.fvn_axunify.specs.Solvers.{Solver}
use Rattle.fvn_axunify.specs.Coarser.{HoldsCoarserOnes}
use Rattle.fvn_axunify.specs.inner.Asked.{AreVariablesOf}
use Rattle.fvn_axunify.proofs.solver.AxiomUnify.unify.Goals as goal

pub search-requires-clause-asked : goal.search-requires-clause-asked
search-requires-clause-asked c = record {
  good = c.recall_good.ensures;
  is_given = subst (λ (s : Solver). IsGiven s.declarations c.args.problem.now c.args.first_fresh) (sym c.self.view_is) c.requires;
  variables = subst (AreVariablesOf c.args.problem.now) (sym c.as_slice.ensures.value) c.in_ok-vars.ensures;
}

pub told-requires-clause-asked : goal.told-requires-clause-asked
told-requires-clause-asked c = record {
  good = c.recall_good.ensures;
  is_given = subst (λ (s : Solver). IsGiven s.declarations c.args.problem.now c.args.first_fresh) (sym c.self.view_is) c.requires;
  variables = subst (AreVariablesOf c.args.problem.now) (sym c.as_slice.ensures.value) c.in_ok-vars.ensures;
}

pub returns-clause-coarser : goal.returns-clause-coarser
returns-clause-coarser c = subst (λ (s : Solver). HoldsCoarserOnes s.declarations c.args.problem.now c.in_ok-solved.solved) c.self.view_is c.in_ok-solved.ensures.coarser
