-- What holds in the loop.
use Rattle.std.proofs.Common.{◌≡◌, drop}
use Rattle.fvn_module_syntax.specs.LeftOut.{first_left_out}
use Rattle.fvn_module_statements.proofs.attributes.first_left_out.Given as goal

-- what is left decides
abbrev pub invariant-loop-attribute : goal.invariant-loop-attribute
invariant-loop-attribute l =
    first_left_out l.assoc l.comm l.ditto l.attributes ≡ first_left_out l.assoc l.comm l.ditto (drop l.attribute-index l.attributes)
