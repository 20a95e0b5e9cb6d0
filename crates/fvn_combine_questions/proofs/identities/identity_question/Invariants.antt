-- Nothing is open of the classes so far.
use Rattle.std.proofs.Common.{ℕ, ◌<◌}
use Rattle.fvn_combine_questions.specs.inner.Past.{ArePastIdentities}
use Rattle.fvn_combine_leaves.specs.Users.{IsSharedIn}
use Rattle.fvn_combine_questions.proofs.identities.identity_question.Given as goal

abbrev pub invariant-loop-k : goal.invariant-loop-k
invariant-loop-k l = (k : ℕ) → k < l.k → IsSharedIn l.reading k → ArePastIdentities l.sig l.table l.state l.reading.sums k
