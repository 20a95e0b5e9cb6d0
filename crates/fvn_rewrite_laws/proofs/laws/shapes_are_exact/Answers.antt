-- The law, by its lemma.
use Rattle.fvn_rewrite_laws.proofs.Shaping.{shape_exact}
use Rattle.fvn_rewrite_laws.proofs.laws.shapes_are_exact.Goals as goal

pub returns : goal.returns
returns c = λ d good s keeps t h. shape_exact d good s keeps t h.0 h.1
