-- The solver modulo the axioms of the module.
use Rattle.fvn_cmd_exploring.proofs.Settings.{drawn_is, drawn_by}
use Rattle.fvn_cmd_variants.proofs.searching.searched.Goals as goal

pub returns : goal.returns
returns g c =
    let m = c.args.search.now.declared.now in
    let reach = c.args.search.now.reach in
    drawn_by m reach c.args.start.now c.in_ok-x.x _ (drawn_is m reach _ c.signature.ensures _ c.new-solver.ensures.declarations) c.in_ok-x.ensures
