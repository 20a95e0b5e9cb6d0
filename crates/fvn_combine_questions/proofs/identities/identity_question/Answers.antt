-- One more class.
use Rattle.std.proofs.Common.{List, sym, ◌∙◌, subst, arith}
use Rattle.std.proofs.lemmas.Bool.{false≢true}
use Rattle.fvn_combine_leaves.specs.declared.reading.Sums.{Sums}
use Rattle.fvn_combine_leaves.specs.Users.{IsSharedIn}
use Rattle.fvn_combine_questions.proofs.Passing.{more_below}
use Rattle.fvn_combine_questions.specs.inner.Past.{ArePastIdentities}
use Rattle.fvn_combine_questions.proofs.identities.identity_question.Goals as goal

pub loop-k-preserved-then-not-is_shared : goal.loop-k-preserved-then-not-is_shared
loop-k-preserved-then-not-is_shared c =
    more_below (λ k. IsSharedIn c.args.reading.now k → ArePastIdentities c.args.sig.now c.args.table.now c.args.state.now c.args.reading.now.sums k) c.loop-k.k c.loop-k.invariant
    (λ shared. absurd (false≢true (sym c.if-not-is_shared.true ∙ c.is_shared.ensures.1 shared)))

pub loop-k-preserved : goal.loop-k-preserved
loop-k-preserved c =
    more_below (λ k. IsSharedIn c.args.reading.now k → ArePastIdentities c.args.sig.now c.args.table.now c.args.state.now c.args.reading.now.sums k) c.loop-k.k c.loop-k.invariant
    (λ _. subst (λ (sums : List Sums). ArePastIdentities c.args.sig.now c.args.table.now c.args.state.now sums c.loop-k.k) c.as_slice.ensures c.in-None.ensures)

pub returns : goal.returns
returns c = let end = c.loop-k-test.false in λ k below. c.loop-k.invariant k (omega (arith, end, below))
