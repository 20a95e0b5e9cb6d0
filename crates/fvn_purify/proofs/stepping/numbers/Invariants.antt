-- The numbers so far.
use Rattle.std.proofs.Common.{◌≡◌, map, take}
use Rattle.fvn_combine_nodes.specs.States.{class_of}
use Rattle.fvn_purify.specs.Splits.{number_in}
use Rattle.fvn_purify.proofs.stepping.numbers.Given as goal

abbrev pub invariant-loop-p : goal.invariant-loop-p
invariant-loop-p l = l.list.items ≡ map (number_in (class_of l.state) l.parts) (take l.p-index l.parts)
