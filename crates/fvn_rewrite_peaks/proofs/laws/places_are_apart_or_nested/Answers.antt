-- The law, by its lemma.
use Rattle.fvn_rewrite_peaks.proofs.TwoPlaces.{two_places}
use Rattle.fvn_rewrite_peaks.proofs.laws.places_are_apart_or_nested.Goals as goal

pub returns : goal.returns
returns c = λ a g b h t u v p q. two_places p q
