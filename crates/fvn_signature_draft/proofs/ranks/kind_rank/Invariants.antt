-- The invariant of the arguments of a rank on kinds.
use Rattle.std.proofs.Common.{◌≡◌, map, take}
use Rattle.fvn_terms.specs.Signature.{kind}
use Rattle.fvn_signature_draft.proofs.ranks.kind_rank.Given as goal

-- the arguments so far
abbrev pub invariant-loop-s : goal.invariant-loop-s
invariant-loop-s l = l.args.items ≡ map (kind l.declarations) (take l.s-index l.s-items)
