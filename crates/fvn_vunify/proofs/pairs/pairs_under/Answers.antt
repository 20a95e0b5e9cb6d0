-- Two more terms, and in the end all.
use Rattle.std.proofs.Common.{◌+◌, ◌++◌, [], ◌∷◌, ap, ◌∙◌, arith}
use Rattle.fvn_forms.specs.Canon.{inst}
use Rattle.fvn_flat.specs.Bindings.{value}
use Rattle.fvn_flat.specs.Fits.{Fits}
use Rattle.fvn_flat.proofs.Instances.{each_at}
use Rattle.fvn_vunify.proofs.TwoByTwo.{pairs_step, pairs_whole}
use Rattle.fvn_vunify.proofs.pairs.pairs_under.Goals as goal

pub apply-requires-clause-term : goal.apply-requires-clause-term
apply-requires-clause-term c = each_at (Fits c.args.sig.now) c.args.terms.now c.requires.terms c.loop-i.i c.index-terms-i.result (omega (arith, c.loop-i-test.true)) c.index-terms-i.is

pub apply-requires-in-loop-i-clause-term : goal.apply-requires-in-loop-i-clause-term
apply-requires-in-loop-i-clause-term c = each_at (Fits c.args.sig.now) c.args.terms.now c.requires.terms (c.loop-i.i + 1) c.index-terms-i-in-loop-i.result (omega (arith, c.loop-i-test.true)) c.index-terms-i-in-loop-i.is

pub loop-i-preserved : goal.loop-i-preserved
loop-i-preserved c =
    let f = inst c.args.sig.now (value c.args.names.now) in
    let a = c.index-terms-i.result in
    let b = c.index-terms-i-in-loop-i.result in
    record {
      within = omega (arith, c.loop-i-test.true);
      whole = pairs_step f c.args.terms.now c.loop-i.i a b c.loop-i.pairs.items c.push.new.self.items (omega (arith, c.loop-i-test.true)) c.index-terms-i.is c.index-terms-i-in-loop-i.is
          (c.in_ok-push.ensures.items ∙ ap (λ t. c.loop-i.pairs.items ++ (t, c.in_ok-right.right) ∷ []) c.in_ok-left.ensures.exact ∙ ap (λ t. c.loop-i.pairs.items ++ (f a, t) ∷ []) c.in_ok-right.ensures.exact)
          c.loop-i.invariant.whole;
    }

pub returns : goal.returns
returns c = c.from_vec.ensures ∙ pairs_whole (inst c.args.sig.now (value c.args.names.now)) c.args.terms.now c.loop-i.i c.loop-i.pairs.items (omega (arith, c.loop-i-test.false)) c.loop-i.invariant.whole
