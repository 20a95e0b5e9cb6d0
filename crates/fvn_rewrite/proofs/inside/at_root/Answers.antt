-- What is found at the root is a step.
use Rattle.std.proofs.Common.{sym, ◌∙◌}
use Rattle.fvn_theory.specs.Equations.{equations_of}
use Rattle.fvn_rewrite.proofs.InsideAxioms.{root_next}
use Rattle.fvn_rewrite.proofs.inside.at_root.Goals as goal

pub root_step-requires : goal.root_step-requires
root_step-requires c = record { rules = c.requires.rules; term = c.requires.form; head = sym c.head.ensures ∙ c.in-Some.is }

pub returns-in_ok-next-in-Some : goal.returns-in_ok-next-in-Some
returns-in_ok-next-in-Some c = root_next c.args.pass.now.sig.now (equations_of c.args.pass.now.rules.now.equations) c.args.t.now c.in_ok-next-in-Some.next c.in_ok-next-in-Some.ensures
