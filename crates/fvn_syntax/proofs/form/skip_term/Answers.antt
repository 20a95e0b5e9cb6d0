-- The number of pieces taken is that of the only term with which they begin; where none is taken, they begin with none.
use Rattle.fvn_syntax.proofs.FormExact.{taken-term, taken-alone, taken-only, taken-none}
use Rattle.fvn_syntax.proofs.form.skip_term.Goals as goal

pub returns-clause-term : goal.returns-clause-term
returns-clause-term c = taken-term c.args.row.now c.in_ok-taken.taken c.in_ok-taken.ensures.rest

pub returns-clause-only : goal.returns-clause-only
returns-clause-only c = taken-only c.args.row.now c.in_ok-taken.taken c.in_ok-taken.ensures.rest

pub returns-clause-none : goal.returns-clause-none
returns-clause-none c = taken-none c.args.row.now c.in_ok-taken.taken c.in_ok-taken.ensures.rest

pub returns-clause-alone : goal.returns-clause-alone
returns-clause-alone c = taken-alone c.args.row.now c.in_ok-taken.taken c.in_ok-taken.ensures.rest
