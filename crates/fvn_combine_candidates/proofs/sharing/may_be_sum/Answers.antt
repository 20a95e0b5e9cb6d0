-- The operator uses the class, which is not narrow under it, or may be its identity.
use Rattle.std.proofs.Common.{refl, sym, ◌∙◌}
use Rattle.std.proofs.lemmas.Bool.{false≢true}
use Rattle.fvn_combine_nodes.specs.States.{class_of}
use Rattle.fvn_combine_candidates.proofs.Systems.{operator_at}
use Rattle.fvn_combine_candidates.proofs.Tagged.{may_told}
use Rattle.fvn_combine_candidates.proofs.sharing.may_be_sum.Goals as goal

pub returns-then-not-uses : goal.returns-then-not-uses
returns-then-not-uses c = (λ e. absurd (false≢true e), λ m. absurd (false≢true (sym c.if-not-uses.true ∙ c.uses.ensures.1 m.0)))

pub returns-then-not-sorted : goal.returns-then-not-sorted
returns-then-not-sorted c = (λ _. (c.uses.ensures.0 c.if-not-uses.false, λ e. absurd (false≢true (sym c.if-not-sorted.true ∙ e))), λ _. refl)

pub is_narrow-requires-clause-associative : goal.is_narrow-requires-clause-associative
is_narrow-requires-clause-associative c =
    (operator_at c.args.sig.now c.args.table.now (class_of c.args.state.now) c.args.reading.now c.requires.reading c.args.sums.now c.requires.listed).associative

pub returns-then-not-is_narrow : goal.returns-then-not-is_narrow
returns-then-not-is_narrow c =
    (λ _. (c.uses.ensures.0 c.if-not-uses.false, λ _ narrow _. false≢true (sym c.if-not-is_narrow.true ∙ c.is_narrow.ensures.1 narrow)), λ _. refl)

pub returns : goal.returns
returns c =
    may_told c.args.sorted c.is_never_identity.result (c.uses.ensures.0 c.if-not-uses.false) c.if-not-sorted.false (c.is_narrow.ensures.0 c.if-not-is_narrow.false)
    c.is_never_identity.ensures
