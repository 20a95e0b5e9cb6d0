-- The identity has no summand.
use Rattle.std.proofs.Common.{sym, ◌∙◌, arith}
use Rattle.fvn_combine_inferring.proofs.Added.{unit_associates, unlike}
use Rattle.fvn_combine_inferring.proofs.summed.is_unlike.Goals as goal

pub is_same-requires : goal.is_same-requires
is_same-requires c =
    let w = c.requires.closed.whole in
    let j = c.requires.right in
    let n = c.requires.inside in
    record { left = omega (arith, w, j); right = omega (arith, w, n) }

pub is_summed-requires-clause-associative : goal.is_summed-requires-clause-associative
is_summed-requires-clause-associative c = unit_associates c.args.sig.now c.args.table.now c.requires.sums c.args.unit.0 c.args.unit.1 c.requires.unit

pub returns : goal.returns
returns c t =
    unlike c.args.sig.now c.args.table.now c.args.state.now c.args.known.now.sorted c.args.unit.0 c.requires.sums c.requires.closed c.args.unit.1 c.args.i c.args.j c.requires.unit (sym c.is_same.ensures ∙ c.if-not-is_same.false)
    (c.is_summed.ensures t)
