-- One more class.
use Rattle.std.proofs.Common.{◌⊎◌, ℕ, sym, ◌∙◌, inl, inr}
use Rattle.std.proofs.lemmas.Bool.{false≢true}
use Rattle.fvn_combine_questions.proofs.Walked.{more_of, all_of}
use Rattle.fvn_combine_nodes.specs.States.{IsOpen}
use Rattle.fvn_combine_leaves.specs.Users.{HaveHeads, CanBeConstant}
use Rattle.fvn_combine_questions.proofs.constants.open_with.Goals as goal

pub loop-l-preserved-then-not-may_be_constant : goal.loop-l-preserved-then-not-may_be_constant
loop-l-preserved-then-not-may_be_constant c =
    let past = λ (l : ℕ). CanBeConstant c.args.reading.now c.args.sums.now l → HaveHeads c.args.reading.now c.args.k l ⊎ (IsOpen c.args.state.now c.args.k l → ⊥) in
    more_of past c.as_slice-l-items.result.now c.args.sums.now.columns c.as_slice-l-items.ensures c.loop-l.l-index 0 c.loop-l-test.true c.loop-l.invariant
    (λ can. absurd (false≢true (sym c.if-not-may_be_constant.true ∙ c.may_be_constant.ensures.1 can)))

pub loop-l-preserved-then-have_two_heads : goal.loop-l-preserved-then-have_two_heads
loop-l-preserved-then-have_two_heads c =
    let past = λ (l : ℕ). CanBeConstant c.args.reading.now c.args.sums.now l → HaveHeads c.args.reading.now c.args.k l ⊎ (IsOpen c.args.state.now c.args.k l → ⊥) in
    more_of past c.as_slice-l-items.result.now c.args.sums.now.columns c.as_slice-l-items.ensures c.loop-l.l-index 0 c.loop-l-test.true c.loop-l.invariant
    (λ can. inl (c.have_two_heads.ensures c.if-have_two_heads.true))

pub loop-l-preserved : goal.loop-l-preserved
loop-l-preserved c =
    let past = λ (l : ℕ). CanBeConstant c.args.reading.now c.args.sums.now l → HaveHeads c.args.reading.now c.args.k l ⊎ (IsOpen c.args.state.now c.args.k l → ⊥) in
    more_of past c.as_slice-l-items.result.now c.args.sums.now.columns c.as_slice-l-items.ensures c.loop-l.l-index 0 c.loop-l-test.true c.loop-l.invariant
    (λ can. inr (λ o. false≢true (sym c.if-is_open.false ∙ c.is_open.ensures ∙ o)))

pub returns : goal.returns
returns c =
    let past = λ (l : ℕ). CanBeConstant c.args.reading.now c.args.sums.now l → HaveHeads c.args.reading.now c.args.k l ⊎ (IsOpen c.args.state.now c.args.k l → ⊥) in
    all_of past c.as_slice-l-items.result.now c.args.sums.now.columns c.as_slice-l-items.ensures c.loop-l.l-index c.loop-l-test.false c.loop-l.invariant
