-- What is handed out is the module that the trait tells.
use Rattle.std.proofs.Common.{sym, subst}
use Rattle.fvn_module.specs.Contents.{Contents}
use Rattle.fvn_cmd_words.specs.declared.reach.Reach.{Reach}
use Rattle.fvn_cmd_exploring.specs.Searches.{IsModuleSolver}
use Rattle.fvn_cmd_vunify.specs.inner.Steps.{AreSides, IsSolvedBy}
use Rattle.fvn_cmd_vunify.proofs.solving.solved_over.Goals as goal

pub solved_by-requires-clause-given : goal.solved_by-requires-clause-given
solved_by-requires-clause-given g c κs within =
    subst (λ (m : Contents). AreSides m.signature c.args.given.pairs) (sym c.at_hand-own.ensures.contents) c.requires.given

pub solved_by-requires-clause-solver : goal.solved_by-requires-clause-solver
solved_by-requires-clause-solver g c κs within =
    subst (λ (m : Contents). IsModuleSolver m (g.A.AxiomSolver.signature c.args.solver.now) (g.A.AxiomSolver.most_unifiers c.args.solver.now) (g.A.AxiomSolver.most_symbols c.args.solver.now))
    (sym c.at_hand-own.ensures.contents) c.requires.solver

pub returns : goal.returns
returns g c =
    let drawn = g.A.AxiomSolver.drawn c.args.solver.now in
    subst (λ (m : Contents). IsSolvedBy m (g.T.Searching.reach c.args.searching.now) drawn c.args.given.pairs c.in_ok-r.r) c.at_hand-own.ensures.contents
    (subst (λ (x : Reach). IsSolvedBy c.at_hand-own.result.declared.now x drawn c.args.given.pairs c.in_ok-r.r) c.at_hand-own.ensures.reach c.in_ok-r.ensures)
