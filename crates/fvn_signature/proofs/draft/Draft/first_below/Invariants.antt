-- The invariant of the search for a result at or below a sort.
use Rattle.std.proofs.Common.{◌≡◌, drop}
use Rattle.std.specs.Prelude.{find}
use Rattle.fvn_forms.specs.SortOrder.{at_or_below}
use Rattle.fvn_forms.specs.Ranks.{results}
use Rattle.fvn_signature.proofs.draft.Draft.first_below.Given as goal

-- the ranks that are left decide
abbrev pub invariant-loop-rank : goal.invariant-loop-rank
invariant-loop-rank l = find (λ r. at_or_below l.self.declarations r l.sort) (results l.self.declarations l.ranks l.args) ≡ find (λ r. at_or_below l.self.declarations r l.sort) (results l.self.declarations (drop l.rank-index l.ranks) l.args)
