-- At the start all arguments are left.
use Rattle.fvn_flat.proofs.Views.{occurs_view}
use Rattle.fvn_flat.proofs.flat.Flat.+has_var.Goals as goal

pub loop-t-init : goal.loop-t-init
loop-t-init t c = occurs_view c.self.inside.node c.args.self.now c.in-App.field-0 c.in-App.field-1 c.in-App.ts c.deref-t-items.result.now c.self.view_is c.in-App.is c.deref-t-items.ensures.value c.args.v
