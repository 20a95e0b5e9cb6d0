-- What the forms of the sides show.
use Rattle.fvn_weights.specs.Weighing.{linear}
use Rattle.fvn_weights.proofs.FormTests.{outcome_is}
use Rattle.fvn_weights.proofs.weighing.outcome_of.Goals as goal

pub returns : goal.returns
returns c = outcome_is (linear c.args.weights.now.list) c.args.e.now c.set_form.new.form c.set_form-2.new.form c.in_ok-set_form.ensures c.in_ok-set_form-2.ensures c.shown_by-shown.result c.shown_by-shown.ensures
