-- What the search ends with.
use Rattle.std.proofs.Common.{sym, subst}
use Rattle.fvn_flat.specs.Fits.{Fits}
use Rattle.fvn_rewrite_laws.specs.Normalised.{IsNormalised}
use Rattle.fvn_rewrite.specs.Usable.{Rewriting, equations_by}
use Rattle.fvn_rewrite.proofs.rewriter.Rewriter.normal.Goals as goal

pub normal-requires : goal.normal-requires
normal-requires c = record { term = subst (λ (r : Rewriting). Fits r.signature c.args.t.now) (sym c.self.view_is) c.requires; rules = c.self.invariant }

pub returns : goal.returns
returns c = subst (λ (r : Rewriting). IsNormalised r.signature (equations_by r) c.args.t.now r.bounds c.in_ok-found.found) c.self.view_is c.in_ok-found.ensures
