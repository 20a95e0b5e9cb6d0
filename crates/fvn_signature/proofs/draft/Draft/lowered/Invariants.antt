-- The invariant of going down the results.
use Rattle.std.proofs.Common.{◌≡◌, drop}
use Rattle.std.specs.Prelude.{None}
use Rattle.fvn_forms.specs.Ranks.{results}
use Rattle.fvn_signature.specs.inner.Lowering.{lowered}
use Rattle.fvn_signature.proofs.draft.Draft.lowered.Given as goal

-- going on from what was found ends where going down all does
abbrev pub invariant-loop-rank : goal.invariant-loop-rank
invariant-loop-rank l = lowered l.self.declarations None (results l.self.declarations l.ranks l.args) ≡ lowered l.self.declarations l.found (results l.self.declarations (drop l.rank-index l.ranks) l.args)
