-- The bytes given are the front of those that were left.
use Rattle.std.proofs.Common.{arith, ◌≡◌, ◌≤◌, ◌∙◌, ℕ, take, drop, length-take}
use Rattle.fvn_outside.proofs.SourceLemmas.{Takes-next, take-next}
use Rattle.fvn_outside.proofs.memory.MemSourceSource.read.Goals as goal

pub returns-clause-ok : goal.returns-clause-ok
returns-clause-ok c =
    let few : c.copy_front-n.result ≤ c.min.result = omega (arith, length-take {A = ℕ}) in
    let given : take c.copy_front-n.result c.copy_front-n.new.to ≡ take c.copy_front-n.result (drop c.self.inside.taken c.self.inside.bytes.items) =
    c.copy_front-n.ensures.copied ∙ rw c.deref.ensures.value (take-next c.self.inside.taken c.copy_front-n.result c.min.result c.self.inside.bytes.items few) in
    rw (← c.self.view_is) (Takes-next c.self.inside.taken c.copy_front-n.result c.self.inside.bytes.items _ given)
