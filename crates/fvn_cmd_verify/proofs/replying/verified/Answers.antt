-- The rules of a loaded module are those of admissible equations, and their verdict is told.
use Rattle.std.proofs.Common.{sym, subst}
use Rattle.fvn_base.specs.declared.limits.TheConstants.{TERM_SYMBOLS}
use Rattle.fvn_theory.specs.Equations.{equations_of}
use Rattle.fvn_rewrite_laws.specs.Admissible.{AreAdmissible}
use Rattle.fvn_cmd_verify.proofs.Told.{fits_verdict, told_verdict_on}
use Rattle.fvn_cmd_verify.proofs.replying.verified.Goals as goal

pub verify-requires-clause-rules : goal.verify-requires-clause-rules
verify-requires-clause-rules c = record {
  rules = c.in_ok-rules.ensures.rules;
  admissible =
      subst (λ es. AreAdmissible c.args.declared.now.signature (equations_of es)) (sym c.in_ok-rules.ensures.equations)
      (c.harmless_equations_are_admissible.ensures c.args.declared.now.signature c.args.declared.now.equations c.recall_readable.ensures.equations c.requires.harmless);
}

pub verify-requires-clause-kinded : goal.verify-requires-clause-kinded
verify-requires-clause-kinded c = c.requires.kinded

pub tell-requires : goal.tell-requires
tell-requires c =
    fits_verdict c.args.declared.now.signature c.in_ok-rules.rules.equations (record { steps = c.args.steps; size = TERM_SYMBOLS })
    c.args.problem.now c.args.bindings.now c.in_ok-verdict.verdict c.in_ok-verdict.ensures

pub returns : goal.returns
returns c =
    told_verdict_on c.args.declared.now c.in_ok-rules.rules.equations c.in_ok-rules.ensures.equations
    c.args.steps c.args.problem.now c.args.bindings.now c.in_ok-verdict.verdict c.in_ok-verdict.ensures _ _ c.in_ok-answer.ensures
