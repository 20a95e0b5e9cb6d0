-- One more operator.
use Rattle.std.proofs.Common.{refl, sym, ◌∙◌, subst}
use Rattle.std.proofs.lemmas.Bool.{false≢true}
use Rattle.fvn_combine_questions.proofs.Walked.{more_of, all_of}
use Rattle.fvn_combine_questions.specs.inner.Past.{IsPastUser}
use Rattle.fvn_combine_questions.proofs.identities.open_of_class.Goals as goal

pub loop-s-preserved-then-not-is_user : goal.loop-s-preserved-then-not-is_user
loop-s-preserved-then-not-is_user c =
    let past = IsPastUser c.args.sig.now c.args.table.now c.args.state.now c.args.sums.now c.args.k in
    more_of past c.args.sums.now c.args.sums.now refl c.loop-s.s-index c.s-item.result c.loop-s-test.true c.loop-s.invariant
    (subst past c.s-item.is (λ m. absurd (false≢true (sym c.if-not-is_user.true ∙ c.is_user.ensures.1 m))))

pub loop-s-preserved-then-not-is_asked_of : goal.loop-s-preserved-then-not-is_asked_of
loop-s-preserved-then-not-is_asked_of c =
    let past = IsPastUser c.args.sig.now c.args.table.now c.args.state.now c.args.sums.now c.args.k in
    more_of past c.args.sums.now c.args.sums.now refl c.loop-s.s-index c.s-item.result c.loop-s-test.true c.loop-s.invariant
    (subst past c.s-item.is (λ m twin. absurd (false≢true (sym c.if-not-is_asked_of.true ∙ c.is_asked_of.ensures twin))))

pub loop-s-preserved : goal.loop-s-preserved
loop-s-preserved c =
    let past = IsPastUser c.args.sig.now c.args.table.now c.args.state.now c.args.sums.now c.args.k in
    more_of past c.args.sums.now c.args.sums.now refl c.loop-s.s-index c.s-item.result c.loop-s-test.true c.loop-s.invariant
    (subst past c.s-item.is (λ m twin. c.in-None.ensures))

pub returns : goal.returns
returns c =
    all_of (IsPastUser c.args.sig.now c.args.table.now c.args.state.now c.args.sums.now c.args.k) c.args.sums.now c.args.sums.now refl c.loop-s.s-index c.loop-s-test.false c.loop-s.invariant
