-- What narrows with the rules, and the solver, are of one signature.
use Rattle.std.proofs.Common.{ap, sym, ◌∙◌}
use Rattle.fvn_rewrite.specs.Usable.{Rewriting}
use Rattle.fvn_tests_vunify.proofs.tests.fixed.found_fixing.Goals as goal

pub new-fixing-requires-clause-one_signature : goal.new-fixing-requires-clause-one_signature
new-fixing-requires-clause-one_signature g c κs within =
    ap (λ l. l.declarations) c.new-listed.ensures ∙ sym (ap (λ (r : Rewriting). r.signature) c.new-narrower.ensures.rewrites)
