-- One more pair, whose variable none before it binds.
use Rattle.std.proofs.Common.{sym, ap, subst, ◌≡◌, None, [], ◌∷◌, ◌++◌, ◌∙◌}
use Rattle.fvn_forms.specs.Flat.{FlatTerm}
use Rattle.fvn_flat.specs.Bindings.{Bindings, bound}
use Rattle.fvn_remembering.proofs.Pairs.{bound_before, copied_more}
use Rattle.fvn_remembering.proofs.copying.copied.Goals as goal

pub with_pair-requires : goal.with_pair-requires
with_pair-requires c =
    subst (λ (s : Bindings). bound s c.pair.result.0 ≡ None) (sym c.loop-i.invariant) (bound_before c.args.s.now c.recall_bindings.ensures c.loop-i.i (c.pair.result.0, c.pair.result.1.now) c.pair.ensures)

pub loop-i-preserved : goal.loop-i-preserved
loop-i-preserved c =
    copied_more c.args.s.now c.loop-i.all _ c.loop-i.i (c.pair.result.0, c.pair.result.1.now) c.pair.ensures c.loop-i.invariant (c.in_ok-all.ensures ∙ ap (λ (u : FlatTerm). c.loop-i.all ++ (c.pair.result.0, u) ∷ []) c.in_ok-form.ensures)
