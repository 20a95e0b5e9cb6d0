-- A line for each unifier, and the end.
use Rattle.std.proofs.Common.{sym, subst}
use Rattle.std.specs.Prelude.{All}
use Rattle.fvn_answer.specs.Asked.{HaveSorts}
use Rattle.fvn_flat.specs.Bindings.{BindingsFit}
use Rattle.fvn_cmd_unify.proofs.Solving.{solved-bindings, solved-sorts}
use Rattle.fvn_cmd_unify.proofs.Replied.{told-fits_end, answer-told}
use Rattle.fvn_cmd_unify.proofs.replying.answer.Goals as goal

pub lines_of-requires-clause-fit : goal.lines_of-requires-clause-fit
lines_of-requires-clause-fit c =
    subst (All (BindingsFit c.args.declared.now.signature)) (sym c.as_slice-unifiers.ensures)
    (solved-bindings c.args.declared.now c.args.problem.now c.requires.kinded c.requires.vars c.in_ok-found.found c.in_ok-found.ensures)

pub lines_of-requires-clause-sorts : goal.lines_of-requires-clause-sorts
lines_of-requires-clause-sorts c =
    subst (All (HaveSorts c.args.declared.now.signature c.args.problem.now.vars)) (sym c.as_slice-unifiers.ensures)
    (solved-sorts c.args.declared.now c.args.problem.now c.requires.kinded c.requires.vars c.in_ok-found.found c.in_ok-found.ensures)

pub answer_text-requires : goal.answer_text-requires
answer_text-requires c = record {
  end =
      told-fits_end c.args.declared.now c.args.problem.now c.requires.kinded c.requires.vars c.in_ok-found.found c.in_ok-found.ensures _ c.as_slice-unifiers.ensures c.end_told-end.result
      c.end_told-end.ensures;
}

pub returns : goal.returns
returns c =
    answer-told c.args.declared.now c.args.problem.now c.requires.kinded c.requires.vars c.in_ok-found.found c.in_ok-found.ensures _ c.as_slice-unifiers.ensures
    c.answers_to_flattened_pairs.ensures c.flattened_pairs_have_one_answer.ensures c.equal_lines_are_instances.ensures _ c.signature.ensures c.recall_good.ensures.fits _ c.in_ok-lines.ensures c.end_told-end.result c.end_told-end.ensures _ c.in_ok-text.ensures _ c.status_of_end.ensures
