-- The arguments are those of the form.
use Rattle.std.proofs.Common.{refl}
use Rattle.fvn_flat.proofs.Views.{args_view}
use Rattle.fvn_flat.proofs.flat.Flat.into_args.Goals as goal

pub returns-in-App : goal.returns-in-App
returns-in-App c = args_view c.self.inside.node c.args.self c.in-App.field-0 c.in-App.field-1 c.in-App.ts c.in-App.ts.items c.self.view_is c.in-App.is refl
