-- One more pair.
use Rattle.std.proofs.Common.{drop, map, sym, ap, ◌+◌, ◌∙◌}
use Rattle.fvn_forms.specs.Flat.{fpack}
use Rattle.fvn_flat.specs.Variables.{with_all_variables}
use Rattle.fvn_refine.proofs.Steps.{got_rest}
use Rattle.fvn_refine.proofs.variables.variables_of_terms.Goals as goal

pub loop-i-preserved : goal.loop-i-preserved
loop-i-preserved c =
    c.loop-i.invariant
    ∙ ap (λ l. with_all_variables (fpack (map (λ p. p.1) l)) c.loop-i.all.items) (got_rest c.args.subst.now c.loop-i.i _ c.pair.ensures)
    ∙ ap (with_all_variables (fpack (map (λ p. p.1) (drop (c.loop-i.i + 1) c.args.subst.now)))) (sym c.in_ok-all.ensures)
