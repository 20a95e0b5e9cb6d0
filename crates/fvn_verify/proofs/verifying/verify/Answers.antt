-- Sides of one kind are well-kinded.
use Rattle.std.proofs.Common.{sym, subst}
use Rattle.std.specs.Prelude.{All}
use Rattle.std.proofs.lemmas.List.Elements.{All-weaker}
use Rattle.fvn_terms.specs.Signature.{KeepsKinds}
use Rattle.fvn_terms.specs.Substitution.{value}
use Rattle.fvn_rewrite_laws.specs.Kinds.{AreOfOneKind}
use Rattle.fvn_rewrite.specs.Usable.{Rewriting}
use Rattle.fvn_verify.specs.Verdicts.{IsVerdict}
use Rattle.fvn_verify.specs.inner.Comparing.{under, AreKinded}
use Rattle.fvn_verify.proofs.verifying.verify.Goals as goal

pub verify_pairs-requires-clause-keeps : goal.verify_pairs-requires-clause-keeps
verify_pairs-requires-clause-keeps c = subst (λ (r : Rewriting). KeepsKinds r.signature (value c.args.bindings.now.pairs)) (sym c.new-rewriter.ensures) c.requires.keeps

pub verify_pairs-requires-clause-kinded : goal.verify_pairs-requires-clause-kinded
verify_pairs-requires-clause-kinded c =
    let d = c.args.sig.now in
    subst (λ (r : Rewriting). All (AreKinded r.signature) c.args.pairs.now) (sym c.new-rewriter.ensures)
    (All-weaker (AreOfOneKind d) (AreKinded d) (λ p h. ((h.0, h.1.0), (h.0, h.1.1))) c.args.pairs.now c.requires.kinded)

pub verify_pairs-requires-clause-limited : goal.verify_pairs-requires-clause-limited
verify_pairs-requires-clause-limited c = rw c.new-rewriter.ensures c.requires.limited

pub returns : goal.returns
returns c = subst (λ (r : Rewriting). IsVerdict (under r (value c.args.bindings.now.pairs)) c.args.pairs.now c.in_ok-verdict.verdict) c.new-rewriter.ensures c.in_ok-verdict.ensures
