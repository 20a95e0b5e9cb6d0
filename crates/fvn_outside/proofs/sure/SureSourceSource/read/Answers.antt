-- The bytes given are the front of those that were left.
use Rattle.std.proofs.Common.{◌≡◌, take, drop}
use Rattle.std.proofs.lemmas.List.{take_rest}
use Rattle.fvn_outside.proofs.SourceLemmas.{Takes-next}
use Rattle.fvn_outside.proofs.sure.SureSourceSource.read.Goals as goal

pub returns-clause-ok : goal.returns-clause-ok
returns-clause-ok c =
    let given : take c.copy_front-n.result c.copy_front-n.new.to ≡ take c.copy_front-n.result (drop c.self.inside.taken c.self.inside.bytes.items) =
    rw (← c.deref.ensures.value, ← take_rest c.deref.result.now c.self.inside.taken) c.copy_front-n.ensures.copied in
    rw (← c.self.view_is) (Takes-next c.self.inside.taken c.copy_front-n.result c.self.inside.bytes.items _ given)
