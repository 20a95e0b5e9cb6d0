-- All splits are to come, and each unifier obeys one.
use Rattle.std.proofs.Common.{sym, subst}
use Rattle.std.specs.Prelude.{◌↔◌}
use Rattle.fvn_purify.specs.Parts.{outline}
use Rattle.fvn_purify.specs.Splits.{IsSplit}
use Rattle.fvn_purify.specs.Cursor.{Pending}
use Rattle.fvn_purify.specs.inner.Choices.{IsKept}
use Rattle.fvn_purify.specs.inner.Founds.{cursor}
use Rattle.fvn_purify.proofs.Fitted.{stepped}
use Rattle.fvn_purify.proofs.Complete.{begun_kept, begun_exact, obeyed_split}
use Rattle.fvn_purify.proofs.beginning.splits.Goals as goal

pub invariant_of-result : goal.invariant_of-result
invariant_of-result c =
    let d = c.args.sig.now in
    let o = outline c.args.classes.now in
    let q = c.requires.classes in
    let fit = stepped d c.recall_good.ensures.fits q.0 q.1 c.args.classes.now c.recall_well_made.ensures q.2 in
    let e = c.in_ok-partials.ensures in
    subst (λ l. IsKept (cursor d o l)) (sym e.2) (begun_kept d o fit e.0 e.1)

pub returns-clause-exact : goal.returns-clause-exact
returns-clause-exact c split =
    let d = c.args.sig.now in
    let o = outline c.args.classes.now in
    let q = c.requires.classes in
    let fit = stepped d c.recall_good.ensures.fits q.0 q.1 c.args.classes.now c.recall_well_made.ensures q.2 in
    let e = c.in_ok-partials.ensures in
    subst (λ l. Pending (cursor d o l) split ↔ IsSplit d o split) (sym e.2) (begun_exact d o fit e.0 e.1 split)

pub returns-clause-complete : goal.returns-clause-complete
returns-clause-complete c problem u h classes unifier =
    let d = c.args.sig.now in
    let o = outline c.args.classes.now in
    let fits = c.recall_good.ensures.fits in
    let made = c.recall_well_made.ensures in
    let fit = stepped d fits problem h c.args.classes.now made classes in
    let e = c.in_ok-partials.ensures in
    let parts = c.unifiers_partition.ensures d fits problem h o.table made classes.table u unifier in
    let s = obeyed_split d o fit fits problem h classes.table u unifier parts in
    (s.0, s.1.0, subst (λ l. Pending (cursor d o l) s.0) (sym e.2) ((begun_exact d o fit e.0 e.1 s.0).1 s.1.1))
