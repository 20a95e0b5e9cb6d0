-- What is handed out is the module that the trait tells.
use Rattle.std.proofs.Common.{sym, subst}
use Rattle.fvn_module.specs.Contents.{Contents}
use Rattle.fvn_fold.specs.Starts.{IsStartable}
use Rattle.fvn_cmd_words.specs.declared.reach.Reach.{Reach}
use Rattle.fvn_cmd_exploring.specs.Searches.{IsExploredBy, IsModuleSolver}
use Rattle.fvn_cmd_variants.proofs.searching.searched_over.Goals as goal

pub searched_by-requires-clause-start : goal.searched_by-requires-clause-start
searched_by-requires-clause-start g c κs within =
    subst (λ (m : Contents). IsStartable m.signature c.args.start.now) (sym c.at_hand-own.ensures.contents) c.requires.start

pub searched_by-requires-clause-solver : goal.searched_by-requires-clause-solver
searched_by-requires-clause-solver g c κs within =
    subst (λ (m : Contents). IsModuleSolver m (g.A.AxiomSolver.signature c.args.solver.now) (g.A.AxiomSolver.most_unifiers c.args.solver.now) (g.A.AxiomSolver.most_symbols c.args.solver.now))
    (sym c.at_hand-own.ensures.contents) c.requires.solver

pub returns : goal.returns
returns g c =
    let drawn = g.A.AxiomSolver.drawn c.args.solver.now in
    subst (λ (m : Contents). IsExploredBy m (g.T.Searching.reach c.args.searching.now) drawn c.args.start.now c.in_ok-x.x) c.at_hand-own.ensures.contents
    (subst (λ (x : Reach). IsExploredBy c.at_hand-own.result.declared.now x drawn c.args.start.now c.in_ok-x.x) c.at_hand-own.ensures.reach c.in_ok-x.ensures)
