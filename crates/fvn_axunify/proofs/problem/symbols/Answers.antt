-- One more pair.
use Rattle.std.proofs.Common.{◌-◌, ◌^◌, ap, ◌∙◌, arith}
use Rattle.std.specs.Prelude.{min}
use Rattle.std.proofs.lemmas.List.{take_all}
use Rattle.fvn_flat.specs.Solving.{symbols_of_pairs}
use Rattle.fvn_axunify.proofs.Pairs.{symbols-step}
use Rattle.fvn_axunify.proofs.problem.symbols.Goals as goal

pub loop-a-preserved : goal.loop-a-preserved
loop-a-preserved c =
    let step = symbols-step c.args.pairs.now c.loop-a.a-index c.loop-a-item.result c.loop-a-test.true c.loop-a-item.is in
    omega (arith, c.loop-a.invariant, step, c.size.ensures, c.size-in-loop-a.ensures, c.saturating_add.ensures, c.saturating_add-count.ensures)

pub returns : goal.returns
returns c = c.loop-a.invariant ∙ ap (λ l. min (symbols_of_pairs l) (2 ^ 64 - 1)) (take_all c.loop-a.a-index c.args.pairs.now c.loop-a-test.false)
