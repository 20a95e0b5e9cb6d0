-- What is found of the left side, and then of the right one.
use Rattle.std.proofs.Common.{inl, refl}
use Rattle.fvn_verify.proofs.comparing.compare.Goals as goal

pub flat_form-requires : goal.flat_form-requires
flat_form-requires c = record { keeps = c.requires.keeps; kinded = c.requires.kinded.0 }

pub form_of-requires : goal.form_of-requires
form_of-requires c = record { start = c.in_ok-start.ensures; limited = c.requires.limited }

pub compare_right-requires : goal.compare_right-requires
compare_right-requires c = record {
  keeps = c.requires.keeps;
  kinded = c.requires.kinded;
  limited = c.requires.limited;
  start = c.in_ok-start.ensures;
  left = rw c.in-Form.is at c.in_ok-left.ensures;
}

pub returns-in-Steps : goal.returns-in-Steps
returns-in-Steps c = (c.args.pair.now.0, (inl refl, rw c.in-Steps.is at c.in_ok-left.ensures))

pub returns : goal.returns
returns c = (c.args.pair.now.0, (inl refl, rw c.in-Size.is at c.in_ok-left.ensures))
