-- What was made of the module.
use Rattle.std.proofs.Common.{refl}
use Rattle.fvn_module_engines.proofs.loaded.with_rules.Goals as goal

pub returns : goal.returns
returns c = record {
  declared_is = refl;
  equations = c.in_ok-rules.ensures.equations;
  rules = c.in_ok-rules.ensures.rules;
  loss = c.in_ok-loss.ensures;
}
