-- What the step is.
use Rattle.std.proofs.Common.{◌≡◌, None, sym, subst}
use Rattle.std.specs.Prelude.{IfSome}
use Rattle.fvn_flat.specs.Fits.{Fits}
use Rattle.fvn_rewrite_laws.specs.Normalised.{StepsTo, IsNormalForm}
use Rattle.fvn_rewrite.specs.Usable.{Rewriting, equations_by}
use Rattle.fvn_rewrite.proofs.rewriter.Rewriter.step.Goals as goal

pub step-requires : goal.step-requires
step-requires c = record { term = subst (λ (r : Rewriting). Fits r.signature c.args.t.now) (sym c.self.view_is) c.requires; rules = c.self.invariant }

pub returns-clause-some : goal.returns-clause-some
returns-clause-some c = subst (λ (r : Rewriting). IfSome c.in_ok-found.found (StepsTo r.signature (equations_by r) c.args.t.now)) c.self.view_is c.in_ok-found.ensures.some

pub returns-clause-fits : goal.returns-clause-fits
returns-clause-fits c = subst (λ (r : Rewriting). IfSome c.in_ok-found.found (Fits r.signature)) c.self.view_is c.in_ok-found.ensures.fits

pub returns-clause-none : goal.returns-clause-none
returns-clause-none c = subst (λ (r : Rewriting). c.in_ok-found.found ≡ None → IsNormalForm r.signature (equations_by r) c.args.t.now) c.self.view_is c.in_ok-found.ensures.none
