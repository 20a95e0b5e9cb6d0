-- None of the parts so far is in the class.
use Rattle.std.proofs.Common.{◌≡◌, ◌+◌, drop}
use Rattle.fvn_combine_nodes.specs.States.{class_of}
use Rattle.fvn_purify.specs.Splits.{number_in}
use Rattle.fvn_purify.proofs.stepping.number_in.Given as goal

abbrev pub invariant-loop-k : goal.invariant-loop-k
invariant-loop-k l = number_in (class_of l.state) l.parts l.i ≡ l.k + number_in (class_of l.state) (drop l.k l.parts) l.i
