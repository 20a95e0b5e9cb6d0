-- The solver is given the flattened pairs.
use Rattle.std.proofs.Common.{sym, subst}
use Rattle.std.specs.Prelude.{All}
use Rattle.fvn_problems.specs.Problems.{AreOfOneKind}
use Rattle.fvn_cmd_unify.proofs.Solving.{given-to_solver, solver-answer}
use Rattle.fvn_cmd_unify.proofs.replying.solved.Goals as goal

pub returns : goal.returns
returns c =
    solver-answer c.args.declared.now c.args.problem.now _ c.signature-signature.ensures _ c.as_slice.ensures c.in_ok-given.given c.in_ok-given.ensures
    _ c.new-solver.ensures.declarations _ c.new-solver.ensures.unifiers _ c.new-solver.ensures.size c.in_ok-found.found c.in_ok-found.ensures.solved c.in_ok-found.ensures.exact c.in_ok-found.ensures.coarser

pub flattened-requires : goal.flattened-requires
flattened-requires c =
    subst (λ pairs. All (AreOfOneKind c.signature-signature.result.now) pairs) (sym c.as_slice.ensures)
    (subst (λ d. All (AreOfOneKind d) c.args.problem.now.pairs) (sym c.signature-signature.ensures) c.requires.kinded)

pub unify-requires : goal.unify-requires
unify-requires c =
    given-to_solver c.args.declared.now c.args.problem.now _ c.signature-signature.ensures _ c.as_slice.ensures c.in_ok-given.given c.in_ok-given.ensures
    c.flattened_pairs_are_given.ensures c.recall_good.ensures.fits c.requires.kinded c.requires.vars _ c.new-solver.ensures.declarations
