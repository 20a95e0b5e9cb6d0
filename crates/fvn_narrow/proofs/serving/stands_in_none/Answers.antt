-- One form more.
use Rattle.std.proofs.Common.{subst}
use Rattle.std.proofs.lemmas.List.{take_all}
use Rattle.std.proofs.lemmas.List.Elements.{All-more}
use Rattle.fvn_terms.specs.Substitution.{Occurs}
use Rattle.fvn_forms.specs.Flat.{FlatTerm, plain}
use Rattle.fvn_narrow.specs.inner.Serving.{StandsInNone}
use Rattle.fvn_narrow.proofs.Parted.{not_there}
use Rattle.fvn_narrow.proofs.serving.stands_in_none.Goals as goal

pub loop-t-preserved : goal.loop-t-preserved
loop-t-preserved c =
    let t : FlatTerm = c.t-item.result in
    All-more (λ (w : FlatTerm). Occurs c.args.x (plain w) → ⊥) c.args.ts.now c.loop-t.t-index t c.loop-t-test.true c.loop-t.invariant
    (subst (λ (w : FlatTerm). Occurs c.args.x (plain w) → ⊥) c.t-item.is (not_there c.has_var-within.result (Occurs c.args.x (plain t)) c.has_var-within.ensures c.if-within.false))

pub returns : goal.returns
returns c = λ yes. subst (StandsInNone c.args.x) (take_all c.loop-t.t-index c.args.ts.now c.loop-t-test.false) c.loop-t.invariant
