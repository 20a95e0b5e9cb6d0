-- What is sought, by the shapes of the sides.
use Rattle.fvn_terms.specs.Plain.{term}
use Rattle.fvn_cohere.specs.inner.Searching.{shapes_by}
use Rattle.fvn_cohere.proofs.Sifting.{met_loss, met_loss_at, met_variable, met_identity}
use Rattle.fvn_cohere.proofs.searching.Search.is_met.Goals as goal

pub returns-in-Loss : goal.returns-in-Loss
returns-in-Loss c =
    met_loss c.args.self.now.sig.now c.args.self.now.identities.now (term c.args.self.now.left.now) (term c.args.self.now.right.now) (shapes_by c.args.chosen.now)
    c.args.self.now.sought c.shape-left.result c.shape-right.result c.is_at_or_below.result c.in-Loss.is c.shape-left.ensures c.shape-right.ensures c.is_at_or_below.ensures

pub returns-in-LossAt : goal.returns-in-LossAt
returns-in-LossAt c =
    met_loss_at c.args.self.now.sig.now c.args.self.now.identities.now (term c.args.self.now.left.now) (term c.args.self.now.right.now) (shapes_by c.args.chosen.now)
    c.args.self.now.sought c.in-LossAt.s c.shape-left.result c.is_lost_at.result c.in-LossAt.is c.shape-left.ensures c.is_lost_at.ensures

pub returns-in-ToVariable : goal.returns-in-ToVariable
returns-in-ToVariable c =
    met_variable c.args.self.now.sig.now c.args.self.now.identities.now (term c.args.self.now.left.now) (term c.args.self.now.right.now) (shapes_by c.args.chosen.now)
    c.args.self.now.sought c.shape-left.result c.is_variable_root.result c.in-ToVariable.is c.shape-left.ensures c.is_variable_root.ensures

pub returns-in-ToIdentity : goal.returns-in-ToIdentity
returns-in-ToIdentity c =
    met_identity c.args.self.now.sig.now c.args.self.now.identities.now (term c.args.self.now.left.now) (term c.args.self.now.right.now) (shapes_by c.args.chosen.now)
    c.args.self.now.sought c.shape-left.result c.is_identity_root.result c.in-ToIdentity.is c.shape-left.ensures c.is_identity_root.ensures
