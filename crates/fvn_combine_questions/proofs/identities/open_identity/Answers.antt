-- One more identity.
use Rattle.std.proofs.Common.{◌≡◌, sym, ◌∙◌}
use Rattle.std.proofs.lemmas.Bool.{false≢true}
use Rattle.fvn_combine_questions.proofs.Walked.{more_of, all_of}
use Rattle.fvn_combine_nodes.specs.States.{IsOpen}
use Rattle.fvn_combine_questions.proofs.identities.open_identity.Goals as goal

pub loop-g-preserved : goal.loop-g-preserved
loop-g-preserved c =
    more_of (λ p. p.0 ≡ c.args.f → IsOpen c.args.state.now c.args.k p.1 → ⊥) c.units-g-items.result.now c.args.table.now.units c.units-g-items.ensures c.loop-g.g-index _ c.loop-g-test.true c.loop-g.invariant
    (λ same o. false≢true (sym c.if-is_open.false ∙ c.is_open.ensures ∙ o))

pub returns : goal.returns
returns c = all_of (λ p. p.0 ≡ c.args.f → IsOpen c.args.state.now c.args.k p.1 → ⊥) c.units-g-items.result.now c.args.table.now.units c.units-g-items.ensures c.loop-g.g-index c.loop-g-test.false c.loop-g.invariant
