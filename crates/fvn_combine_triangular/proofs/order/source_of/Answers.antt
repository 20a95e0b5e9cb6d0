-- One more place without a source.
use Rattle.std.proofs.Common.{◌-◌, sym, ◌∙◌, arith}
use Rattle.std.proofs.lemmas.Bool.{false≢true}
use Rattle.fvn_combine_triangular.proofs.Ordering.{source_here, no_source_more}
use Rattle.fvn_combine_triangular.proofs.Notes.{nowhere_by, nowhere_back}
use Rattle.fvn_combine_triangular.proofs.order.source_of.Goals as goal

pub returns-then-is_in_none : goal.returns-then-is_in_none
returns-then-is_in_none c = source_here c.args.bindings.now (c.loop-i.i - 1) c.index-bindings-i.result (let t = c.loop-i-test.true in let w = c.loop-i.invariant.within in omega (arith, t, w)) c.index-bindings-i.is (nowhere_by c.args.bindings.now c.args.notes.now c.index-bindings-i.result.0 c.requires (c.is_in_none.ensures.0 c.if-is_in_none.true))

pub loop-i-preserved : goal.loop-i-preserved
loop-i-preserved c =
    let t = c.loop-i-test.true in
    let w = c.loop-i.invariant.within in
    record {
      within = omega (arith, t, w);
      none = no_source_more c.args.bindings.now c.loop-i.i c.index-bindings-i.result t w c.index-bindings-i.is (λ n. false≢true (sym c.if-is_in_none.false ∙ c.is_in_none.ensures.1 (nowhere_back c.args.bindings.now c.args.notes.now c.index-bindings-i.result.0 c.requires n))) c.loop-i.invariant.none;
    }

pub returns : goal.returns
returns c = λ j s. c.loop-i.invariant.none j (let t = c.loop-i-test.false in omega (arith, t)) s
