-- The theory of all free operators, or the operator's own.
use Rattle.std.proofs.Common.{sym, ap, ◌∙◌}
use Rattle.fvn_terms.specs.Equality.{is_free}
use Rattle.fvn_terms.specs.Signature.{axioms}
use Rattle.fvn_purify.proofs.AxiomTests.{free_theory, own_theory}
use Rattle.fvn_purify.proofs.standing.theory.Goals as goal

pub returns-then-is_free : goal.returns-then-is_free
returns-then-is_free c = free_theory c.args.f (axioms c.args.sig.now c.args.f) (ap is_free (sym c.axioms.ensures) ∙ sym c.is_free.ensures ∙ c.if-is_free.true)

pub returns : goal.returns
returns c = own_theory c.args.f (axioms c.args.sig.now c.args.f) (ap is_free (sym c.axioms.ensures) ∙ sym c.is_free.ensures ∙ c.if-is_free.false)
