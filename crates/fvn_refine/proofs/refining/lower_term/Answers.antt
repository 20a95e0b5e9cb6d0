-- The rows themselves, or those that are found below them.
use Rattle.std.proofs.Common.{sym, subst}
use Rattle.fvn_refine.specs.inner.Rows.{HasAbove}
use Rattle.fvn_refine.specs.inner.Found.{AreRows, Finds, IsUnder, AreAllUnder}
use Rattle.fvn_refine.proofs.Finding.{finds_themselves}
use Rattle.fvn_refine.proofs.refining.lower_term.Goals as goal

pub are_kept-requires : goal.are_kept-requires
are_kept-requires c = subst (AreRows c.args.search.now.sig.now c.args.search.now.vars.now) (sym c.as_slice.ensures.value) c.requires.rows

pub returns-then-are_kept : goal.returns-then-are_kept
returns-then-are_kept c =
    let d = c.args.search.now.sig.now in
    let xs = c.args.search.now.vars.now in
    finds_themselves d xs (IsUnder d xs c.args.t.now c.args.s) c.args.rows.items c.requires.rows c.requires.apart
    (subst (AreAllUnder d xs c.args.t.now c.args.s) c.as_slice.ensures.value (c.are_kept.ensures c.if-are_kept.true))

pub lower_rows-requires-clause-rows : goal.lower_rows-requires-clause-rows
lower_rows-requires-clause-rows c = subst (AreRows c.args.search.now.sig.now c.args.search.now.vars.now) (sym c.as_slice-2.ensures.value) c.requires.rows

pub returns : goal.returns
returns c =
    let d = c.args.search.now.sig.now in
    let xs = c.args.search.now.vars.now in
    subst (λ l. Finds d xs (λ m. HasAbove d l m × IsUnder d xs c.args.t.now c.args.s m) c.in_ok-all.all.items) c.as_slice-2.ensures.value c.in_ok-all.ensures
