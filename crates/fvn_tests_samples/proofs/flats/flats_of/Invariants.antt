-- The forms so far fit.
use Rattle.fvn_flat.specs.Fits.{AllFit}
use Rattle.fvn_tests_samples.proofs.flats.flats_of.Given as goal

abbrev pub invariant-loop-word : goal.invariant-loop-word
invariant-loop-word l = AllFit l.sig l.all.items
