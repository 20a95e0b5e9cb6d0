-- One more pair is compared; after the last one the verdict is told.
use Rattle.std.proofs.Common.{◌+◌, take, sym, subst}
use Rattle.fvn_terms.specs.Substitution.{value}
use Rattle.fvn_verify.specs.declared.comparing.Compared.TheVariants.{Found}
use Rattle.fvn_verify.specs.Verdicts.{IsVerdict}
use Rattle.fvn_verify.specs.inner.Comparing.{under, AreKinded, IsCompared, IsSoFar}
use Rattle.fvn_verify.proofs.Comparisons.{none-so-far, one-more, ended, conclude, all-of}
use Rattle.fvn_verify.proofs.verifying.verify_pairs.Goals as goal

pub loop-i-init : goal.loop-i-init
loop-i-init c = none-so-far (under c.args.rewriter.now (value c.args.bindings.now.pairs))

pub compare-requires-clause-kinded : goal.compare-requires-clause-kinded
compare-requires-clause-kinded c =
    subst (AreKinded c.args.rewriter.now.signature) (sym c.index-pairs-i.is) (c.requires.kinded c.loop-i.i c.index-pairs-i.result c.loop-i-test.true)

pub returns-in-Ended : goal.returns-in-Ended
returns-in-Ended c =
    ended (under c.args.rewriter.now (value c.args.bindings.now.pairs)) c.args.pairs.now c.loop-i.i c.index-pairs-i.result c.loop-i.first c.in-Ended.verdict
    c.loop-i-test.true c.index-pairs-i.is c.loop-i.invariant (rw c.in-Ended.is at c.in_ok-verdict.ensures)

pub loop-i-preserved : goal.loop-i-preserved
loop-i-preserved c =
    let g = under c.args.rewriter.now (value c.args.bindings.now.pairs) in
    let compared : IsCompared g c.index-pairs-i.result (Found c.in-Found.difference) = rw c.in-Found.is at c.in_ok-verdict.ensures in
    subst (IsSoFar g (take (c.loop-i.i + 1) c.args.pairs.now)) (sym c.earlier-first.ensures)
    (one-more g c.args.pairs.now c.loop-i.i c.index-pairs-i.result c.loop-i.first c.in-Found.difference
    c.loop-i-test.true c.index-pairs-i.is c.loop-i.invariant compared.0 compared.1.0 compared.1.1)

pub returns : goal.returns
returns c =
    let g = under c.args.rewriter.now (value c.args.bindings.now.pairs) in
    subst (IsVerdict g c.args.pairs.now) (sym c.conclude.ensures)
    (conclude g c.args.pairs.now c.loop-i.first (all-of g c.args.pairs.now c.loop-i.i c.loop-i.first c.loop-i-test.false c.loop-i.invariant))
