-- What the test tells.
use Rattle.std.proofs.Common.{◌≡◌, false, sym, subst}
use Rattle.std.specs.Prelude.{IsTrue}
use Rattle.fvn_terms.specs.Rewriting.{IsReducible}
use Rattle.fvn_forms.specs.Flat.{plain}
use Rattle.fvn_flat.specs.Fits.{Fits}
use Rattle.fvn_rewrite_laws.specs.Normalised.{IsNormalForm}
use Rattle.fvn_rewrite.specs.Usable.{Rewriting, equations_by}
use Rattle.fvn_rewrite.proofs.rewriter.Rewriter.is_reducible.Goals as goal

pub is_reducible-requires : goal.is_reducible-requires
is_reducible-requires c = record { term = subst (λ (r : Rewriting). Fits r.signature c.args.t.now) (sym c.self.view_is) c.requires; rules = c.self.invariant }

pub returns-clause-yes : goal.returns-clause-yes
returns-clause-yes c = subst (λ (r : Rewriting). IsTrue c.in_ok-is.is' → IsReducible r.signature (equations_by r) (plain c.args.t.now)) c.self.view_is c.in_ok-is.ensures.yes

pub returns-clause-no : goal.returns-clause-no
returns-clause-no c = subst (λ (r : Rewriting). c.in_ok-is.is' ≡ false → IsNormalForm r.signature (equations_by r) c.args.t.now) c.self.view_is c.in_ok-is.ensures.no
