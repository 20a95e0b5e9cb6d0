-- The arguments are those of the form, and fit where it fits.
use Rattle.std.proofs.Common.{sym, subst}
use Rattle.fvn_flat.specs.Fits.{FitWhere}
use Rattle.fvn_flat.proofs.Fitting.{args_fit}
use Rattle.fvn_flat.proofs.Views.{args_view}
use Rattle.fvn_flat.proofs.flat.Flat.args.Goals as goal

pub returns-in-App-clause-exact : goal.returns-in-App-clause-exact
returns-in-App-clause-exact c = args_view c.self.inside.node c.args.self.now c.in-App.field-0 c.in-App.field-1 c.in-App.ts c.as_slice.result.now c.self.view_is c.in-App.is c.as_slice.ensures.value

pub returns-in-App-clause-fit : goal.returns-in-App-clause-fit
returns-in-App-clause-fit c = subst (FitWhere c.args.self.now) (sym (returns-in-App-clause-exact c)) (args_fit c.args.self.now)
