-- They are added to nothing.
use Rattle.fvn_combine_triangular.proofs.Notes.{listed_alone}
use Rattle.fvn_combine_triangular.proofs.order.vars_of.Goals as goal

pub returns : goal.returns
returns c = listed_alone c.new-vars.result.items c.add_vars.new.vars.items c.args.t.now c.new-vars.ensures.items c.in_ok-add_vars.ensures
