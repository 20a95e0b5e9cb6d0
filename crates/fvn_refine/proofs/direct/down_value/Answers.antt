-- The value of the variable.
use Rattle.std.proofs.Common.{sym, ap, subst}
use Rattle.std.specs.Prelude.{IfSome}
use Rattle.fvn_flat.specs.Bindings.{value, form_or}
use Rattle.fvn_flat.proofs.Composing.{bound_fits}
use Rattle.fvn_refine.specs.inner.Found.{IsUnder}
use Rattle.fvn_refine.specs.inner.Greatest.{IsGreatest}
use Rattle.fvn_refine.proofs.Greatest.{kind_here}
use Rattle.fvn_refine.proofs.direct.down_value.Goals as goal

pub returns-then-is_kind : goal.returns-then-is_kind
returns-then-is_kind c =
    let d = c.args.search.now.sig.now in
    kind_here d c.args.search.now.vars.now c.recall_good.ensures c.args.row.items c.requires.row (value c.args.subst.now c.args.x) c.args.x.sort
    (c.requires.fits.settled c.args.x) (c.requires.fits.keeps_kinds c.args.x c.requires.sort) (c.is_kind.ensures c.if-is_kind.true)

pub down-lower-requires-clause-term : goal.down-lower-requires-clause-term
down-lower-requires-clause-term c = bound_fits c.args.search.now.sig.now c.args.subst.now c.args.x c.in-Some.t.now c.requires.fits c.requires.sort c.in-Some.ensures

pub returns : goal.returns
returns c =
    let d = c.args.search.now.sig.now in
    let xs = c.args.search.now.vars.now in
    subst (λ u. IfSome c.down-lower.result (λ r. IsGreatest d xs c.args.row.items (IsUnder d xs u c.args.x.sort) r.items))
    (sym (ap (form_or c.args.x) c.in-Some.ensures)) c.down-lower.ensures
