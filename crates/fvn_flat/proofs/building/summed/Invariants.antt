-- The summands so far.
use Rattle.std.proofs.Common.{◌≡◌}
use Rattle.fvn_forms.specs.Canon.{all_parts}
use Rattle.fvn_flat.proofs.building.summed.Given as goal

abbrev pub invariant-loop-t : goal.invariant-loop-t
invariant-loop-t l = l.summands.items ≡ all_parts l.sig l.f l.yielded
