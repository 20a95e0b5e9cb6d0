-- What is told keeps each promise of a solver.
use Rattle.fvn_remembering.specs.Answers.{solving, IsKept}
use Rattle.fvn_remembering.proofs.Told.{named_one}
use Rattle.fvn_remembering.proofs.remembering.RememberingAxiomSolver.solve.Goals as goal

pub told-requires-clause-rule : goal.told-requires-clause-rule
told-requires-clause-rule g c =
    named_one (λ s answer. IsKept (solving (g.A.AxiomSolver.signature s) (g.A.AxiomSolver.most_unifiers s) (g.A.AxiomSolver.most_symbols s)) (g.A.AxiomSolver.drawn s) answer) _ c.args.self.now.solver.now c.args.self.now.named

pub returns-clause-sound : goal.returns-clause-sound
returns-clause-sound g c = c.in_ok-solved.ensures.sound

pub returns-clause-drawn : goal.returns-clause-drawn
returns-clause-drawn g c = c.in_ok-solved.ensures.are_drawn

pub returns-clause-binds : goal.returns-clause-binds
returns-clause-binds g c = c.in_ok-solved.ensures.binds

pub returns-clause-fresh : goal.returns-clause-fresh
returns-clause-fresh g c = c.in_ok-solved.ensures.fresh

pub returns-clause-next : goal.returns-clause-next
returns-clause-next g c = c.in_ok-solved.ensures.next

pub returns-clause-bounded : goal.returns-clause-bounded
returns-clause-bounded g c = c.in_ok-solved.ensures.bounded

pub returns-clause-apart : goal.returns-clause-apart
returns-clause-apart g c = c.in_ok-solved.ensures.apart

pub returns-clause-complete : goal.returns-clause-complete
returns-clause-complete g c = c.in_ok-solved.ensures.complete

pub returns-clause-cause : goal.returns-clause-cause
returns-clause-cause g c = c.in_ok-solved.ensures.cause
