-- What the signature and the rules keep.
use Rattle.std.proofs.Common.{subst}
use Rattle.fvn_forms.specs.Good.{IsGood}
use Rattle.fvn_signature.specs.Queries.{IsCompleted}
use Rattle.fvn_rewrite.specs.Usable.{Rewriting, AreUsable}
use Rattle.fvn_rewrite.proofs.rewriter.Rewriter.recall.Goals as goal

pub returns-clause-good : goal.returns-clause-good
returns-clause-good c = subst (λ (r : Rewriting). IsGood r.signature) c.self.view_is c.recall_good.ensures

pub returns-clause-completed : goal.returns-clause-completed
returns-clause-completed c = subst (λ (r : Rewriting). IsCompleted r.signature) c.self.view_is c.recall_completed.ensures

pub returns-clause-usable : goal.returns-clause-usable
returns-clause-usable c = subst (λ (r : Rewriting). AreUsable r.signature r.rules) c.self.view_is c.self.invariant
