-- The measure of the recursion.
use Rattle.fvn_flat.specs.Weight.{places}
use Rattle.fvn_places.proofs.putting.+put.Given as goal

abbrev pub decreases-put : goal.decreases-put
decreases-put l = places l.t.now
