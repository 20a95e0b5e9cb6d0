-- what is left decides
use Rattle.std.proofs.Common.{◌≡◌, drop}
use Rattle.fvn_answer.specs.inner.Bytes.{with_each}
use Rattle.fvn_answer.specs.Writing.{bytes_of}
use Rattle.fvn_answer.proofs.texts.over.Given as goal

abbrev pub invariant-loop-t : goal.invariant-loop-t
invariant-loop-t l =
    with_each 40 l.fn.name (bytes_of l.fn.texts) ≡ with_each l.before l.text.items (bytes_of (drop l.t-index l.texts))
