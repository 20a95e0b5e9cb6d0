-- Two variables are one where their three fields agree.
use Rattle.std.proofs.Common.{◌∙◌}
use Rattle.std.specs.Prelude.{nat_eq}
use Rattle.fvn_weights.proofs.Placing.{grouped}
use Rattle.fvn_weights.proofs.numbers.is_same.Goals as goal

pub returns : goal.returns
returns c = c.eq.ensures ∙ grouped (nat_eq c.args.a.name c.args.b.name) (nat_eq c.args.a.sort.0 c.args.b.sort.0) c.args.a.fresh c.args.b.fresh
