-- What is sought, and the outlooks that rule it out.
use Rattle.std.proofs.Common.{inl, inr}
use Rattle.fvn_terms.specs.Plain.{term}
use Rattle.fvn_cohere.proofs.Hopeless.{excludes_loss, excludes_loss_at, excludes_variable, excludes_identity}
use Rattle.fvn_cohere.proofs.outlooks.PartialChoice.excludes.Goals as goal

pub returns-in-Loss : goal.returns-in-Loss
returns-in-Loss c = λ h filled w.
    excludes_loss c.args.self.now.sig.now c.args.self.now.identities.now (term c.args.left.now) (term c.args.right.now) filled c.args.sought
    c.outlook-low_side.result c.outlook-high_side.result c.in-Loss.is (c.outlook-low_side.ensures filled w) (c.outlook-high_side.ensures filled w) (c.is_below_low.ensures h)

pub returns-in-LossAt : goal.returns-in-LossAt
returns-in-LossAt c = λ h filled w.
    excludes_loss_at c.args.self.now.sig.now c.args.self.now.identities.now (term c.args.left.now) (term c.args.right.now) filled c.args.sought
    c.in-LossAt.s c.outlook-low_side.result c.in-LossAt.is (c.outlook-low_side.ensures filled w)
    (elim (c.excludes_at.ensures h) [ inl out ↦ inl out | inr below ↦ inr (below filled w) ])

pub returns-in-ToVariable : goal.returns-in-ToVariable
returns-in-ToVariable c = λ h filled w.
    excludes_variable c.args.self.now.sig.now c.args.self.now.identities.now (term c.args.left.now) (term c.args.right.now) filled c.args.sought
    c.outlook-low_side.result c.in-ToVariable.is (c.outlook-low_side.ensures filled w) h

pub returns-in-ToIdentity : goal.returns-in-ToIdentity
returns-in-ToIdentity c = λ h filled w.
    excludes_identity c.args.self.now.sig.now c.args.self.now.identities.now (term c.args.left.now) (term c.args.right.now) filled c.args.sought
    c.outlook-low_side.result c.in-ToIdentity.is c.requires.identities (c.outlook-low_side.ensures filled w) h
