-- no piece, one, or more
use Rattle.std.proofs.Common.{sym, ap, ◌∙◌, length}
use Rattle.std.specs.Prelude.{nat_eq}
use Rattle.std.proofs.lemmas.Bool.{eqb-true}
use Rattle.fvn_match.proofs.WholeSteps.{popped_off, not_zero, two_or_more, whole_of_none, whole_of_one, chosen_fit, chosen_taken, whole_of_many}
use Rattle.fvn_match.proofs.wholes.whole.Goals as goal

pub copies-requires : goal.copies-requires
copies-requires c = c.requires.long ∙ c.requires.fits.long

pub returns-in-None : goal.returns-in-None
returns-in-None c =
    whole_of_none c.args.sig.now c.args.goal.now c.requires.fits c.args.chosen.now c.requires.long c.in_ok-none-in-None.none
    (ap length (sym c.in_ok-terms.ensures) ∙ sym c.in_ok-terms.terms.ok.0 ∙ c.in-None.ensures.cases.0) c.in_ok-none-in-None.ensures

pub returns-then-is_empty : goal.returns-then-is_empty
returns-then-is_empty c =
    let none = eqb-true (length c.pop.new.self.items) 0 (ap (λ n. nat_eq n 0) (sym c.pop.new.self.ok.0) ∙ sym c.is_empty.ensures ∙ c.if-is_empty.true) in
    whole_of_one c.args.sig.now c.args.goal.now c.requires.fits c.args.chosen.now c.requires.long c.in-Some.last
    (sym c.in_ok-terms.ensures ∙ popped_off _ _ c.in-Some.last c.in-Some.ensures.items none)

pub app-requires-clause-fit : goal.app-requires-clause-fit
app-requires-clause-fit c =
    chosen_fit c.args.sig.now c.args.goal.now c.requires.fits c.args.chosen.now c.requires.long c.recall_good.ensures.fits _
    (c.in_ok-push.ensures.items ∙ sym c.in-Some.ensures.items ∙ c.in_ok-terms.ensures)

pub app-requires-clause-takes : goal.app-requires-clause-takes
app-requires-clause-takes c =
    let some = not_zero (length c.pop.new.self.items) (ap (λ n. nat_eq n 0) (sym c.pop.new.self.ok.0) ∙ sym c.is_empty.ensures ∙ c.if-is_empty.false) in
    chosen_taken c.args.sig.now c.args.goal.now c.requires.fits c.args.chosen.now c.requires.long c.recall_good.ensures.fits _
    (c.in_ok-push.ensures.items ∙ sym c.in-Some.ensures.items ∙ c.in_ok-terms.ensures) (two_or_more _ _ c.in-Some.last c.in_ok-push.ensures.items some)

pub returns : goal.returns
returns c =
    let some = not_zero (length c.pop.new.self.items) (ap (λ n. nat_eq n 0) (sym c.pop.new.self.ok.0) ∙ sym c.is_empty.ensures ∙ c.if-is_empty.false) in
    whole_of_many c.args.sig.now c.args.goal.now c.requires.fits c.args.chosen.now c.requires.long c.recall_good.ensures.fits _
    (c.in_ok-push.ensures.items ∙ sym c.in-Some.ensures.items ∙ c.in_ok-terms.ensures) (two_or_more _ _ c.in-Some.last c.in_ok-push.ensures.items some) c.in_ok-t.t c.in_ok-t.ensures.exact
