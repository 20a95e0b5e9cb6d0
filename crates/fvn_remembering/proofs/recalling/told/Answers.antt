-- One that is asked from a later number on is one from this number on.
use Rattle.std.proofs.Common.{◌≤◌, refl, arith}
use Rattle.fvn_remembering.specs.declared.keeping.TheConstants.{FIRST}
use Rattle.fvn_remembering.proofs.Told.{given_later, answer_earlier}
use Rattle.fvn_remembering.proofs.recalling.told.Goals as goal

pub answered-requires-clause-given : goal.answered-requires-clause-given
answered-requires-clause-given g c =
    let low : c.args.first ≤ FIRST = omega (arith, c.if-first-gt-FIRST.false) in
    given_later _ c.args.problem.now c.args.first low c.requires.given

pub returns : goal.returns
returns g c =
    let low : c.args.first ≤ FIRST = omega (arith, c.if-first-gt-FIRST.false) in
    answer_earlier _ c.args.problem.now c.args.first low (g.S.Solves.solving c.args.solver.now) refl (g.S.Solves.drawn c.args.solver.now) c.in_ok-answer.answer c.in_ok-answer.ensures
