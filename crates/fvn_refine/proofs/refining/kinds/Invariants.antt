-- The kinds so far.
use Rattle.std.proofs.Common.{◌≡◌, map, take}
use Rattle.fvn_terms.specs.Signature.{kind}
use Rattle.fvn_refine.proofs.refining.kinds.Given as goal

abbrev pub invariant-loop-x : goal.invariant-loop-x
invariant-loop-x l = l.row.items ≡ map (λ x. kind l.sig x.sort) (take l.x-index l.vars)
