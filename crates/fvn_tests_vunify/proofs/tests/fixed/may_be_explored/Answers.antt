-- The fixed terms are over the first form.
use Rattle.std.proofs.Common.{sym}
use Rattle.fvn_tests_vunify.proofs.Asking.{first_listed, may_be}
use Rattle.fvn_tests_vunify.proofs.tests.fixed.may_be_explored.Goals as goal

pub returns-in_ok-all-in-Some : goal.returns-in_ok-all-in-Some
returns-in_ok-all-in-Some g c = λ t.
    let first = c.in-Some.first.now in
    let listed = first_listed c.args.start.now first (sym c.in-Some.ensures.value) in
    may_be (g.E.Expander.setting c.args.expander.now) c.args.start.now first listed.0 c.fixed-fixed.result.now c.fixed-fixed.ensures.exact listed.1
    (c.in_ok-all-in-Some.ensures t)
