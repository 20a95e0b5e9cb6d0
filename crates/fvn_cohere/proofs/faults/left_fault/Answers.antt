-- What is wrong, by the two answers.
use Rattle.std.proofs.Common.{refl, sym, subst}
use Rattle.std.specs.Prelude.{MatchOption}
use Rattle.fvn_terms.specs.Plain.{term}
use Rattle.fvn_cohere.specs.LeftFaults.{IsHarmless, IsLeftFault}
use Rattle.fvn_cohere.proofs.Harmless.{not_fit, collapse_says}
use Rattle.fvn_cohere.proofs.faults.left_fault.Goals as goal

pub returns-then-not-fit : goal.returns-then-not-fit
returns-then-not-fit c = λ e is. (refl, not_fit c.in_ok-fit.fit c.if-not-fit.true (c.in_ok-fit.ensures e is))

pub returns : goal.returns
returns c = λ e is.
    subst (λ f. MatchOption f (IsHarmless c.args.sig.now (term e.left)) (IsLeftFault c.args.sig.now c.args.number (term e.left))) (sym c.fault_of_collapse.ensures)
    (collapse_says c.args.sig.now c.args.number (term e.left) c.in_ok-collapse.collapse ((c.in_ok-fit.ensures e is).0 c.if-not-fit.false) (c.in_ok-collapse.ensures e is))
