-- Equations none of whose left sides is at fault.
use Rattle.std.proofs.Common.{sym, subst}
use Rattle.std.specs.Prelude.{All}
use Rattle.fvn_theory.specs.Equations.{IsReadableEquation, equations_of}
use Rattle.fvn_rewrite_laws.specs.Admissible.{AreAdmissible}
use Rattle.fvn_tests_critical.proofs.tests.telling.push_answer_for.Goals as goal

pub push_within-requires-clause-rules : goal.push_within-requires-clause-rules
push_within-requires-clause-rules c =
    let d = c.args.sig.now in record {
      rules = c.in_ok-rules-in-None.ensures.rules;
      admissible = subst (λ es. AreAdmissible d (equations_of es)) (sym c.in_ok-rules-in-None.ensures.equations)
          (c.harmless_equations_are_admissible.ensures d c.args.equations.now c.requires (rw c.in-None.is at c.in_ok-first_left_fault.ensures));
    }

pub push_within-requires-clause-readable : goal.push_within-requires-clause-readable
push_within-requires-clause-readable c = subst (All (IsReadableEquation c.args.sig.now)) (sym c.in_ok-rules-in-None.ensures.equations) c.requires
