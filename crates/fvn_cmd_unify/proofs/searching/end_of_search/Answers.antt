-- The end is that of what the solver found.
use Rattle.fvn_cmd_unify.proofs.Replied.{end-of_search, told-fits_end}
use Rattle.fvn_cmd_unify.proofs.searching.end_of_search.Goals as goal

pub returns-clause-found : goal.returns-clause-found
returns-clause-found c =
    end-of_search c.args.declared.now c.args.problem.now c.requires.kinded c.requires.vars c.in_ok-found.found c.in_ok-found.ensures _ c.as_slice-unifiers.ensures
    c.answers_to_flattened_pairs.ensures c.flattened_pairs_have_one_answer.ensures _ c.signature.ensures c.recall_good.ensures.fits c.end_told.result c.end_told.ensures

pub returns-clause-fits : goal.returns-clause-fits
returns-clause-fits c =
    told-fits_end c.args.declared.now c.args.problem.now c.requires.kinded c.requires.vars c.in_ok-found.found c.in_ok-found.ensures _ c.as_slice-unifiers.ensures c.end_told.result c.end_told.ensures
