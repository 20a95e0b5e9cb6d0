-- The value of the variable.
use Rattle.std.proofs.Common.{sym, ap, subst}
use Rattle.std.specs.Option.{IsSome}
use Rattle.std.proofs.lemmas.Bool.{true≢false}
use Rattle.fvn_flat.specs.Bindings.{form_or}
use Rattle.fvn_flat.proofs.Composing.{bound_fits}
use Rattle.fvn_refine.specs.inner.Rows.{HasAbove}
use Rattle.fvn_refine.specs.inner.Found.{Finds, IsUnder}
use Rattle.fvn_refine.proofs.refining.lower_value.Goals as goal

pub lower_term-requires-clause-term : goal.lower_term-requires-clause-term
lower_term-requires-clause-term c = bound_fits c.args.search.now.sig.now c.args.subst.now c.args.x c.in-Some.t.now c.requires.fits c.requires.sort c.in-Some.ensures

pub returns-in_ok-all-in-Some : goal.returns-in_ok-all-in-Some
returns-in_ok-all-in-Some c =
    let d = c.args.search.now.sig.now in
    let xs = c.args.search.now.vars.now in
    subst (λ u. Finds d xs (λ m. HasAbove d c.args.rows.items m × IsUnder d xs u c.args.x.sort m) c.in_ok-all-in-Some.all.items) (sym (ap (form_or c.args.x) c.in-Some.ensures)) c.in_ok-all-in-Some.ensures

pub returns-in-None : goal.returns-in-None
returns-in-None c = absurd (true≢false (sym (subst IsSome c.in-None.ensures c.requires.bound)))
