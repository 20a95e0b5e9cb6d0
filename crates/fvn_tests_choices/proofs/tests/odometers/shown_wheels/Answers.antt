-- A current list was there, so that there are fewer after it.
use Rattle.fvn_tests_choices.proofs.tests.odometers.shown_wheels.Goals as goal

pub loop-numbers-smaller : goal.loop-numbers-smaller
loop-numbers-smaller c = c.advance.ensures.falls _ c.in-Some.ensures.value
