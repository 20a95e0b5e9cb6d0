-- The variables so far, with fewer shapes.
use Rattle.std.proofs.Common.{take}
use Rattle.std.specs.List.{AllZip}
use Rattle.fvn_cohere.specs.inner.Narrowing.{IsNarrowed}
use Rattle.fvn_cohere.proofs.searching.Search.narrowed.Given as goal

abbrev pub invariant-loop-v : goal.invariant-loop-v
invariant-loop-v l = AllZip (IsNarrowed l.self) (take l.v-index l.all) l.some.items
