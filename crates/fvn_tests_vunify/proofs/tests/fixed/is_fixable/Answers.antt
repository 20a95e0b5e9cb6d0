-- Over the first form, and irreducible.
use Rattle.fvn_tests_vunify.proofs.tests.fixed.is_fixable.Goals as goal

pub returns : goal.returns
returns g c = λ t. record { over = c.in_ok-over.ensures c.if-not-over.false; irreducible = c.in_ok-normal.ensures t }
