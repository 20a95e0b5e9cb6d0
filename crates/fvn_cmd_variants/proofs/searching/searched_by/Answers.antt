-- What is explored by what narrows with the module's rules.
use Rattle.std.proofs.Common.{◌≡◌, sym, subst}
use Rattle.std.proofs.lemmas.List.Elements.{All-nil}
use Rattle.fvn_base.specs.declared.limits.TheConstants.{UNIFIERS}
use Rattle.fvn_cmd_exploring.proofs.Settings.{setting_is, limits_are, explored_by, explored_along, lawful_along}
use Rattle.fvn_cmd_variants.proofs.searching.searched_by.Goals as goal

pub explore-requires-clause-fixed : goal.explore-requires-clause-fixed
explore-requires-clause-fixed g c κs within = record { over = All-nil _; irreducible = All-nil _ }

pub returns : goal.returns
returns g c =
    let m = c.args.search.now.declared.now in
    let reach = c.args.search.now.reach in
    let same = c.new-narrower.ensures.solver in
    explored_by m reach _ c.args.start.now c.in_ok-x.x c.args.search.now.workers _
    (
    setting_is m reach _ c.signature-signature.ensures c.args.search.now.rules.now c.requires.search.equations _ c.new-narrower.ensures.rewrites _
    (subst (λ z. g.A.AxiomSolver.most_unifiers z ≡ UNIFIERS) (sym same) c.requires.solver.unifiers_are)
    )
    _
    (limits_are m reach c.args.search.now.workers _ c.limits.ensures.levels c.limits.ensures.variants c.limits.ensures.steps c.limits.ensures.size c.limits.ensures.workers)
    (explored_along g.A.AxiomSolver.drawn _ _ same _ c.args.start.now _ c.in_ok-x.x c.in_ok-x.ensures.exploration) (lawful_along g.A.AxiomSolver.drawn _ _ same _ c.explorations_are_lawful.ensures)
