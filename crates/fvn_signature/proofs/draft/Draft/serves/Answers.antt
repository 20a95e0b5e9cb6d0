-- A rank with another number of arguments does not serve.
use Rattle.std.proofs.Common.{sym}
use Rattle.fvn_signature.proofs.Serving.{pass_together-length}
use Rattle.fvn_signature.proofs.draft.Draft.serves.Goals as goal

pub returns-then-args-rank : goal.returns-then-args-rank
returns-then-args-rank c = sym (pass_together-length _ _ _ c.if-args-rank.true)
