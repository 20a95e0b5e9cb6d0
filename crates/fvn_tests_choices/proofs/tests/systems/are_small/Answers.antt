-- One coefficient more, and all of them in the end.
use Rattle.std.proofs.Common.{pos, get_or, ◌≤◌, subst, ap, ◌∙◌, FitsSigned, w32, rules, arith}
use Rattle.std.specs.Prelude.{unsigned_abs}
use Rattle.std.specs.List.{All}
use Rattle.std.proofs.lemmas.Int.{to_z-of_z}
use Rattle.std.proofs.lemmas.List.{take_all}
use Rattle.std.proofs.lemmas.List.Elements.{All-more}
use Rattle.fvn_tests_choices.proofs.tests.systems.are_small.Goals as goal

pub loop-c-preserved : goal.loop-c-preserved
loop-c-preserved c =
    let z = get_or c.args.coefficients.now c.loop-c.c-index (pos 0) in
    let fits : FitsSigned w32 z = search rules in
    let e = c.unsigned_abs.ensures.value ∙ ap unsigned_abs (to_z-of_z w32 z fits) in
    All-more (λ c. unsigned_abs c ≤ 65535) c.args.coefficients.now c.loop-c.c-index (pos 0) c.loop-c-test.true c.loop-c.invariant (omega (arith, e))

pub returns : goal.returns
returns c = λ _. subst (All (λ c. unsigned_abs c ≤ 65535)) (take_all c.loop-c.c-index c.args.coefficients.now c.loop-c-test.false) c.loop-c.invariant
