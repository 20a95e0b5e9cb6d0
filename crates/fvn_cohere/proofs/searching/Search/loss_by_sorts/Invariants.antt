-- No declared sort so far is lost.
use Rattle.fvn_cohere.specs.inner.Narrowing.{LosesAtNone}
use Rattle.fvn_cohere.proofs.searching.Search.loss_by_sorts.Given as goal

abbrev pub invariant-loop-n : goal.invariant-loop-n
invariant-loop-n l = LosesAtNone l.self l.n
