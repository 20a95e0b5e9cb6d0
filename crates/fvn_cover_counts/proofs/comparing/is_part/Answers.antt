-- a longer list is no part
use Rattle.std.proofs.Common.{sym, arith}
use Rattle.fvn_cover_counts.proofs.Parts.{longer_is_no_part}
use Rattle.fvn_cover_counts.proofs.comparing.is_part.Goals as goal

pub returns-then-places-others : goal.returns-then-places-others
returns-then-places-others c = sym (longer_is_no_part c.args.places.now c.args.others.now (omega (arith, c.if-places-others.true)))
