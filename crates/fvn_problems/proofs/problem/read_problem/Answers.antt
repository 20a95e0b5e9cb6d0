-- Facts of what is asked.
use Rattle.std.specs.Prelude.{All}
use Rattle.std.proofs.lemmas.Result.{IfOk-weaker, IfErr-weaker}
use Rattle.fvn_problems.specs.Problems.{AreOfOneKind, IsProblem, IsOnlyProblem, RefusesProblem, HasNoProblem, HasVariables}
use Rattle.fvn_problems.proofs.ProblemTexts.{problem-only, problem-kinded, problem-vars, problem-none}
use Rattle.fvn_problems.proofs.problem.read_problem.Goals as goal

pub returns-clause-only : goal.returns-clause-only
returns-clause-only c =
    IfOk-weaker c.problem_of.result (IsProblem c.args.signature.now c.args.names.now c.args.bytes.now) (IsOnlyProblem c.args.signature.now c.args.names.now c.args.bytes.now)
    (problem-only c.args.signature.now c.args.names.now c.args.bytes.now) c.problem_of.ensures.ok

pub returns-clause-kinded : goal.returns-clause-kinded
returns-clause-kinded c =
    IfOk-weaker c.problem_of.result (IsProblem c.args.signature.now c.args.names.now c.args.bytes.now) (λ p. All (AreOfOneKind c.args.signature.now) p.pairs)
    (problem-kinded c.args.signature.now c.args.names.now c.args.bytes.now c.terms_are_well_kinded.ensures c.requires) c.problem_of.ensures.ok

pub returns-clause-vars : goal.returns-clause-vars
returns-clause-vars c =
    IfOk-weaker c.problem_of.result (IsProblem c.args.signature.now c.args.names.now c.args.bytes.now) (HasVariables c.args.signature.now)
    (problem-vars c.args.signature.now c.args.names.now c.args.bytes.now c.terms_are_well_kinded.ensures c.requires) c.problem_of.ensures.ok

pub returns-clause-none : goal.returns-clause-none
returns-clause-none c =
    IfErr-weaker c.problem_of.result (RefusesProblem c.args.signature.now c.args.names.now c.args.bytes.now) (HasNoProblem c.args.signature.now c.args.names.now c.args.bytes.now)
    (problem-none c.args.signature.now c.args.names.now c.args.bytes.now) c.problem_of.ensures.err
