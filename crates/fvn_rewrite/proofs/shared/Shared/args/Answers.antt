-- The arguments that the content holds.
use Rattle.fvn_rewrite.proofs.Seen.{parts_seen}
use Rattle.fvn_rewrite.proofs.shared.Shared.args.Goals as goal

pub returns-in-App : goal.returns-in-App
returns-in-App c = parts_seen c.self.inside.content.value c.as_ref.result.now c.args.self.now c.in-App.field-0 c.in-App.field-1 c.in-App.field-2 c.in-App.ts c.as_slice.result.now c.self.view_is c.as_ref.ensures c.in-App.is c.as_slice.ensures.value
