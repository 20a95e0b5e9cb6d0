-- The module is loaded from its text.
use Rattle.std.proofs.Common.{subst}
use Rattle.fvn_module_loading.specs.Loading.{IsLoaded}
use Rattle.fvn_cmd_work.proofs.replying.work_reply.Goals as goal

pub reply_in-requires-clause-loaded : goal.reply_in-requires-clause-loaded
reply_in-requires-clause-loaded c = subst (λ t. IsLoaded t c.in-Ok.declared) c.module_text.ensures c.in-Ok.ensures.ok
