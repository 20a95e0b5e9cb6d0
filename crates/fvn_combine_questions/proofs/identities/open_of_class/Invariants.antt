-- Nothing is open of the operators so far.
use Rattle.std.proofs.Common.{take, All}
use Rattle.fvn_combine_questions.specs.inner.Past.{IsPastUser}
use Rattle.fvn_combine_questions.proofs.identities.open_of_class.Given as goal

abbrev pub invariant-loop-s : goal.invariant-loop-s
invariant-loop-s l = All (IsPastUser l.sig l.table l.state l.sums l.k) (take l.s-index l.sums)
