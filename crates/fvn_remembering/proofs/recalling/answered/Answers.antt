-- The answer that is kept is one to the problem.
use Rattle.std.proofs.Common.{sym, subst}
use Rattle.fvn_flat.specs.declared.solver.Pairs.{Pairs}
use Rattle.fvn_remembering.specs.declared.keeping.TheConstants.{FIRST}
use Rattle.fvn_remembering.specs.Answers.{IsAnswer}
use Rattle.fvn_remembering.proofs.recalling.answered.Goals as goal

pub returns-in-Some : goal.returns-in-Some
returns-in-Some g c =
    subst (λ (p : Pairs). IsAnswer (g.S.Solves.solving c.args.solver.now) (g.S.Solves.drawn c.args.solver.now) FIRST p c.in-Some.kept)
    (sym c.requires.is) (rw c.in-Some.is at c.in_ok-found.ensures)

pub take-requires-clause-answer : goal.take-requires-clause-answer
take-requires-clause-answer g c =
    subst (λ (p : Pairs). IsAnswer (g.S.Solves.solving c.args.solver.now) (g.S.Solves.drawn c.args.solver.now) FIRST p c.in_ok-solved.solved)
    c.requires.is c.in_ok-solved.ensures
