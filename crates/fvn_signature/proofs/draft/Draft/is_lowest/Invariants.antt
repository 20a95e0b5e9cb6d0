-- The invariant of the comparison of a sort with results.
use Rattle.std.proofs.Common.{◌≡◌, drop}
use Rattle.fvn_forms.specs.Ranks.{is_lowest, results}
use Rattle.fvn_signature.proofs.draft.Draft.is_lowest.Given as goal

-- the ranks that are left decide
abbrev pub invariant-loop-rank : goal.invariant-loop-rank
invariant-loop-rank l = is_lowest l.self.declarations (results l.self.declarations l.ranks l.args) l.sort ≡ is_lowest l.self.declarations (results l.self.declarations (drop l.rank-index l.ranks) l.args) l.sort
