-- The sorts so far pass.
use Rattle.std.proofs.Common.{◌≡◌, ◌<◌}
use Rattle.fvn_terms.specs.declared.plain.SortId.{SortId}
use Rattle.fvn_terms.specs.Signature.{kind}
use Rattle.fvn_combine_complete.specs.Neutral.{Absorbs}
use Rattle.fvn_combine_candidates.proofs.neutral.all_pass.Given as goal

abbrev pub invariant-loop-s : goal.invariant-loop-s
invariant-loop-s l = (a : SortId) → a.0 < l.s → kind l.sig a ≡ l.of → Absorbs l.sig l.f l.e a
