-- both words
use Rattle.std.proofs.lemmas.Bool.{and_parts, and_from}
use Rattle.fvn_cover_counts.proofs.marks.Marks.are_within.Goals as goal

pub returns : goal.returns
returns c = (
  λ t. let p = and_parts c.is_within.result c.is_within-2.result t in (c.is_within.ensures.0 p.0, c.is_within-2.ensures.0 p.1),
  λ h. and_from c.is_within.result c.is_within-2.result (c.is_within.ensures.1 h.0) (c.is_within-2.ensures.1 h.1),
)
