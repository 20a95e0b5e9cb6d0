-- The solver modulo the axioms of the module.
use Rattle.std.proofs.Common.{◌∙◌}
use Rattle.fvn_cmd_exploring.proofs.Settings.{drawn_is}
use Rattle.fvn_cmd_vunify.proofs.Explored.{solved_by_own}
use Rattle.fvn_cmd_vunify.proofs.solving.solved.Goals as goal

pub solved_keeping-requires-clause-ready : goal.solved_keeping-requires-clause-ready
solved_keeping-requires-clause-ready g c κs within = c.requires.search

pub solved_keeping-requires-clause-given : goal.solved_keeping-requires-clause-given
solved_keeping-requires-clause-given g c κs within = c.requires.given

pub solved_keeping-requires-clause-solver : goal.solved_keeping-requires-clause-solver
solved_keeping-requires-clause-solver g c κs within = record { signature = c.new-solver.ensures.declarations ∙ c.signature.ensures; unifiers_are = c.new-solver.ensures.unifiers; symbols_are = c.new-solver.ensures.size }

pub returns : goal.returns
returns g c =
    let m = c.args.search.now.declared.now in
    let reach = c.args.search.now.reach in
    solved_by_own m reach c.args.given.pairs c.in_ok-r.r _ (drawn_is m reach _ c.signature.ensures _ c.new-solver.ensures.declarations) c.in_ok-r.ensures
