-- The invariant of a comparison of arguments with a rank.
use Rattle.std.proofs.Common.{◌≡◌, length}
use Rattle.fvn_forms.specs.SortOrder.{at_or_below}
use Rattle.fvn_forms.specs.Ranks.{pass_together}
use Rattle.fvn_signature.proofs.draft.Draft.serves.Given as goal

-- the places that are left decide
abbrev pub invariant-loop-arg : goal.invariant-loop-arg
invariant-loop-arg l = record {
  as_long : length l.arg-iterator.a.rest.now ≡ length l.arg-iterator.b.rest.now;
  decide : pass_together (at_or_below l.self.declarations) l.args l.rank ≡ pass_together (at_or_below l.self.declarations) l.arg-iterator.a.rest.now l.arg-iterator.b.rest.now;
}
