-- One more node.
use Rattle.std.proofs.Common.{◌≡◌, ◌∙◌, true, false, length, sym, ap, arith, below_more}
use Rattle.std.proofs.lemmas.Option.{slice_get_within}
use Rattle.fvn_combine_nodes.specs.declared.table.Node.TheVariants.{App}
use Rattle.fvn_purify.specs.inner.Standing.{StandsOutsideAt}
use Rattle.fvn_purify.proofs.standing.stands_outside.Goals as goal

pub loop-j-preserved : goal.loop-j-preserved
loop-j-preserved c = below_more (λ j. StandsOutsideAt c.args.sig.now c.args.table.now c.args.i c.args.own j → ⊥) c.loop-j.j c.loop-j.invariant (λ h. let z : true ≡ false = sym (c.stands_outside_at.ensures.1 h) ∙ c.if-stands_outside_at.false in cc)

pub returns : goal.returns
returns c = (
  λ z. cc,
  λ h.
      let end = c.loop-j-test.false in
      let n = ap length c.nodes-j-end.ensures in
      let l = slice_get_within c.args.table.now.nodes h.under.headed (App h.operator h.under.arguments) h.under.is in
      absurd (c.loop-j.invariant h.under.headed (omega arith) (h.operator, (h.under.arguments, h.under.is, h.under.stands), h.other)),
)
