-- The rows that are found give the refinements.
use Rattle.std.proofs.Common.{subst, ◌∙◌}
use Rattle.std.specs.List.{Contains}
use Rattle.fvn_refine.proofs.InOrder.{placed_from}
use Rattle.fvn_refine.proofs.Refined.{refined, refined_sorts, none_exactly}
use Rattle.fvn_refine.proofs.refining.refine.Goals as goal

pub all_resorted-requires-clause-vars : goal.all_resorted-requires-clause-vars
all_resorted-requires-clause-vars c = c.as_slice-variables.ensures.value ∙ c.in_ok-ys.ensures

pub all_resorted-requires-clause-rows : goal.all_resorted-requires-clause-rows
all_resorted-requires-clause-rows c = λ r k.
    (c.in_ok-rows.ensures.found r (placed_from c.in_ok-rows.rows.items r (subst (λ l. Contains l r) (c.as_slice-placed.ensures.value ∙ c.in_ok-ordered.ensures) k))).0

pub returns-clause-exact : goal.returns-clause-exact
returns-clause-exact c =
    refined c.args.sig.now c.args.vars.now c.args.subst.now c.requires.fits c.requires.bound c.recall_good.ensures
    c.as_slice-variables.result.now (c.as_slice-variables.ensures.value ∙ c.in_ok-ys.ensures) c.in_ok-rows.rows.items c.in_ok-rows.ensures
    c.as_slice-placed.result.now c.in_ok-all.all.items (c.as_slice-placed.ensures.value ∙ c.in_ok-ordered.ensures) c.in_ok-all.ensures.at

pub returns-clause-none : goal.returns-clause-none
returns-clause-none c = none_exactly c.args.sig.now c.args.vars.now c.args.subst.now c.requires.fits c.requires.bound c.in_ok-all.all.items (returns-clause-exact c)

pub returns-clause-sorts : goal.returns-clause-sorts
returns-clause-sorts c =
    refined_sorts c.args.sig.now c.args.vars.now c.args.subst.now c.requires.fits c.requires.bound c.recall_good.ensures
    c.as_slice-variables.result.now (c.as_slice-variables.ensures.value ∙ c.in_ok-ys.ensures) c.in_ok-rows.rows.items c.in_ok-rows.ensures
    c.as_slice-placed.result.now c.in_ok-all.all.items (c.as_slice-placed.ensures.value ∙ c.in_ok-ordered.ensures) c.in_ok-all.ensures.at c.in_ok-all.ensures.fit

pub returns-clause-fit : goal.returns-clause-fit
returns-clause-fit c = c.in_ok-all.ensures.fit
