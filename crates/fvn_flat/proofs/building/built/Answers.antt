-- What is built, by what is asked of the axioms.
use Rattle.std.proofs.Common.{◌≡◌, false, nat_eq, length, sym, ap, ◌∙◌}
use Rattle.fvn_terms.specs.Equality.{is_sum, is_commutative}
use Rattle.fvn_forms.specs.Flat.{fapp, fpack}
use Rattle.fvn_flat.proofs.Built.{built_of_sums, built_in_order, built_as_given}
use Rattle.fvn_flat.proofs.building.built.Goals as goal

pub returns-then-is_sum : goal.returns-then-is_sum
returns-then-is_sum c =
    let some : nat_eq (length c.args.args.items) 0 ≡ false = ap (λ n. nat_eq n 0) (sym c.args.args.ok.0) ∙ sym c.is_empty.ensures ∙ c.if-is_empty.false in
    c.in_ok-sum.ensures
    ∙ sym (built_of_sums c.args.sig.now c.args.f c.args.args.items some (ap is_sum (sym c.axioms-axioms.ensures) ∙ sym c.is_sum.ensures.exact ∙ c.if-is_sum.true))

pub returns-then-is_commutative : goal.returns-then-is_commutative
returns-then-is_commutative c =
    let some : nat_eq (length c.args.args.items) 0 ≡ false = ap (λ n. nat_eq n 0) (sym c.args.args.ok.0) ∙ sym c.is_empty.ensures ∙ c.if-is_empty.false in
    let no_sum = ap is_sum (sym c.axioms-axioms.ensures) ∙ sym c.is_sum.ensures.exact ∙ c.if-is_sum.false in
    c.unjoined-then-is_commutative.ensures
    ∙ ap (λ l. fapp c.args.f false (fpack l)) c.in_ok-sorted.ensures
    ∙ sym (built_in_order c.args.sig.now c.args.f c.args.args.items some no_sum (ap is_commutative (sym c.axioms-axioms.ensures) ∙ sym c.is_commutative.ensures.exact ∙ c.if-is_commutative.true))

pub returns : goal.returns
returns c =
    let some : nat_eq (length c.args.args.items) 0 ≡ false = ap (λ n. nat_eq n 0) (sym c.args.args.ok.0) ∙ sym c.is_empty.ensures ∙ c.if-is_empty.false in
    let no_sum = ap is_sum (sym c.axioms-axioms.ensures) ∙ sym c.is_sum.ensures.exact ∙ c.if-is_sum.false in
    c.unjoined-2.ensures
    ∙ sym (built_as_given c.args.sig.now c.args.f c.args.args.items some no_sum (ap is_commutative (sym c.axioms-axioms.ensures) ∙ sym c.is_commutative.ensures.exact ∙ c.if-is_commutative.false))
