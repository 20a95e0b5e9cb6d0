-- The law of refinements.
use Rattle.fvn_refine.proofs.Covered.{refinements_cover_law}
use Rattle.fvn_refine.proofs.laws.refinements_cover.Goals as goal

pub returns : goal.returns
returns c = refinements_cover_law
