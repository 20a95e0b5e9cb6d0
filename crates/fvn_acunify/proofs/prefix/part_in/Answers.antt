-- Past the last column there is nothing.
use Rattle.std.proofs.Common.{sym, arith}
use Rattle.std.proofs.lemmas.List.{get_or_past}
use Rattle.fvn_acunify.proofs.prefix.part_in.Goals as goal

pub returns : goal.returns
returns c = sym (get_or_past c.args.parts.now c.args.j 0 (omega arith))
