-- The invariant of the arguments that a declaration means.
use Rattle.std.proofs.Common.{◌≡◌, map, take}
use Rattle.fvn_signature_draft.specs.Collected.{meant_or_kind}
use Rattle.fvn_signature_draft.proofs.completing.rank_meant.Given as goal

-- the arguments so far
abbrev pub invariant-loop-s : goal.invariant-loop-s
invariant-loop-s l = l.args.items ≡ map (meant_or_kind l.collected l.declaration.partial) (take l.s-index l.s-items)
