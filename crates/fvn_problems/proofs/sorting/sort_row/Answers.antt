-- What is walked is the least sort.
use Rattle.std.proofs.Common.{[], ap, ◌∙◌}
use Rattle.fvn_problems.specs.Scopes.{unguarded}
use Rattle.fvn_problems.specs.declared.sorting.Spot.TheVariants.{Wanted}
use Rattle.fvn_problems.specs.inner.Sorting.{run, state}
use Rattle.fvn_problems.proofs.BindingTexts.{unguarded-fit}
use Rattle.fvn_problems.proofs.SortWalk.{walked}
use Rattle.fvn_problems.proofs.sorting.sort_row.Goals as goal

pub returns : goal.returns
returns c =
    let names = ap (λ s. run c.args.signature.now s.names (state [] Wanted) c.args.row.now) c.new-scope.ensures in
    walked (unguarded c.args.signature.now c.args.names.now) (unguarded-fit c.args.signature.now c.args.names.now c.requires) c.recall_good.ensures c.terms_are_well_kinded.ensures
    c.args.row.now c.in_ok-sort.field-0 (c.in_ok-sort.ensures ∙ names)
