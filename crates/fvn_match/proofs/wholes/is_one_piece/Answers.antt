-- heads that no instance loses
use Rattle.std.proofs.Common.{◌≡◌, true, Some, sym, ap, ◌∙◌, subst}
use Rattle.std.specs.Prelude.{not, is_some}
use Rattle.std.proofs.lemmas.Bool.{false≢true}
use Rattle.fvn_terms.specs.Equality.{is_sum, identity}
use Rattle.fvn_match.proofs.AxiomTests.{none_if, sum_without}
use Rattle.fvn_match.proofs.OnePiece.{unjoined_is_one, sum_is_one}
use Rattle.fvn_match.proofs.wholes.is_one_piece.Goals as goal

pub returns-then-not-is_sum : goal.returns-then-not-is_sum
returns-then-not-is_sum c = λ yes v k.
    unjoined_is_one c.args.sig.now c.args.f c.recall_good.ensures.fits c.args.p.now c.in-Some.g (sym c.in-Some.ensures) c.requires.flat v k.flat.settled
    (ap is_sum (sym c.axioms-axioms.ensures) ∙ sym c.is_sum.ensures.exact ∙ c.if-not-is_sum.true)

pub returns : goal.returns
returns c = λ yes v k.
    let sum : is_sum c.axioms-axioms.result ≡ true = sym c.is_sum.ensures.exact ∙ c.if-not-is_sum.false in
    let plain = sym c.axioms-axioms.ensures ∙ sum_without c.axioms-axioms.result sum (none_if (identity c.axioms-axioms.result) (ap is_some (sym c.identity.ensures) ∙ sym c.is_some.ensures ∙ c.if-is_some.false)) in
    sum_is_one c.args.sig.now c.args.f c.recall_good.ensures.fits c.args.p.now c.in-Some.g (sym c.in-Some.ensures) c.requires.flat v k.flat.settled c.requires.kinded.0 c.requires.kinded.1 plain
    (λ q. false≢true (subst (λ b. not b ≡ true) (c.is_headed.ensures.1 (sym c.in-Some.ensures ∙ ap Some q)) yes))
