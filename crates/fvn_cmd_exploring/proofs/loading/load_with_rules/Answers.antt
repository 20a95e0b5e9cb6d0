-- The rules of a loaded module are those of admissible equations.
use Rattle.std.proofs.Common.{sym, subst, inl}
use Rattle.fvn_theory.specs.Equations.{equations_of}
use Rattle.fvn_rewrite_laws.specs.Admissible.{AreAdmissible}
use Rattle.fvn_cmd_exploring.proofs.loading.load_with_rules.Goals as goal

pub returns-clause-rules : goal.returns-clause-rules
returns-clause-rules c = record {
  usable = record {
    rules = c.in_ok-rules.ensures.rules;
    admissible =
        subst (λ es. AreAdmissible c.in_ok-declared.declared.signature (equations_of es)) (sym c.in_ok-rules.ensures.equations)
        (c.harmless_equations_are_admissible.ensures c.in_ok-declared.declared.signature c.in_ok-declared.declared.equations c.recall_readable.ensures.equations c.in_ok-declared.ensures.ok.harmless);
  };
  equations = c.in_ok-rules.ensures.equations;
}
