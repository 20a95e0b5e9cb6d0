-- Each list that is shown leaves fewer.
use Rattle.fvn_acunify_product.specs.Wheels.{choices_left}
use Rattle.fvn_tests_choices.proofs.tests.odometers.shown_wheels.Given as goal

abbrev pub decreases-loop-numbers : goal.decreases-loop-numbers
decreases-loop-numbers l = choices_left l.wheels
