-- The least sort of a form that fits is that of its plain term.
use Rattle.std.proofs.Common.{sym, subst}
use Rattle.fvn_terms.specs.Sorts.{IsLeastSort}
use Rattle.fvn_forms.specs.Flat.{plain}
use Rattle.fvn_flat.proofs.SortsOfFlats.{least_sort_fits}
use Rattle.fvn_flat.proofs.flat.Flat.least_sort.Goals as goal

pub returns-clause-least : goal.returns-clause-least
returns-clause-least c =
    subst (IsLeastSort c.args.sig.now (plain c.args.self.now)) (sym c.sort_in.ensures) (least_sort_fits c.args.sig.now c.recall_good.ensures c.args.self.now c.requires)
