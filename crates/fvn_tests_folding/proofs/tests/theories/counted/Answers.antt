-- narrowing goes on in the signature, and keeps no terms fixed
use Rattle.std.proofs.Common.{refl, sym, subst}
use Rattle.fvn_rewrite.specs.Usable.{Rewriting}
use Rattle.fvn_narrow.specs.Settings.{narrowing_setting}
use Rattle.fvn_fold.specs.Starts.{IsSettingIn}
use Rattle.fvn_tests_folding.proofs.tests.theories.counted.Goals as goal

pub counted_by-requires-clause-setting : goal.counted_by-requires-clause-setting
counted_by-requires-clause-setting g c lives order =
    subst (λ (r : Rewriting). IsSettingIn (narrowing_setting r (g.A.AxiomSolver.most_unifiers c.new-narrower.result.solver.now)) c.args.sig.now) (sym c.new-narrower.ensures.rewrites) record { declarations = refl }
