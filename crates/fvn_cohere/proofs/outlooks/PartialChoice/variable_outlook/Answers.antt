-- A variable that is not chosen, and one that is.
use Rattle.fvn_cohere.specs.inner.Searching.{shapes_by}
use Rattle.fvn_cohere.proofs.Foreseen.{chosen_suits, offered_suits}
use Rattle.fvn_cohere.proofs.outlooks.PartialChoice.variable_outlook.Goals as goal

pub returns-in-None : goal.returns-in-None
returns-in-None c = λ filled h. chosen_suits c.args.self.now.sig.now c.args.self.now.unchosen.now (shapes_by c.args.self.now.chosen.now) filled c.args.x c.get-shape.result c.shape_outlook.result h c.in-None.ensures c.get-shape.ensures c.shape_outlook.ensures

pub returns-in-Some : goal.returns-in-Some
returns-in-Some c = λ filled h.
    offered_suits c.args.self.now.sig.now c.args.self.now.unchosen.now (shapes_by c.args.self.now.chosen.now) filled c.args.x c.in-Some.shapes.now c.has_constant-identity.result c.low_among-low.result c.high_among-high.result h c.in-Some.ensures c.has_constant-identity.ensures c.low_among-low.ensures c.high_among-high.ensures
