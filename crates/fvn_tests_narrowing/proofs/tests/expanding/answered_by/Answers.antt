-- The form alone may be expanded, and fits.
use Rattle.std.proofs.Common.{sym, subst}
use Rattle.fvn_base.specs.declared.limits.TheConstants.{EXPANDED_FRESH}
use Rattle.fvn_flat.specs.Fits.{Fits}
use Rattle.fvn_exploring.specs.Expansions.{IsExpandable}
use Rattle.fvn_tests_narrowing.proofs.Starting.{may_be_expanded}
use Rattle.fvn_tests_narrowing.proofs.tests.expanding.answered_by.Goals as goal

pub rested_by-requires-clause-fits : goal.rested_by-requires-clause-fits
rested_by-requires-clause-fits g c lives order = subst (λ e. Fits (g.E.Expander.setting e).declarations c.args.term) (sym c.new-handing.ensures) c.requires.start.fits

pub children_by-requires-clause-variant : goal.children_by-requires-clause-variant
children_by-requires-clause-variant g c lives order =
    subst (λ e. IsExpandable (g.E.Expander.setting e) EXPANDED_FRESH c.in_ok-v.v) (sym c.new-handing.ensures)
    (may_be_expanded (g.E.Expander.setting c.args.expander.now) c.args.term c.in_ok-v.v c.requires.start c.in_ok-v.ensures EXPANDED_FRESH)
