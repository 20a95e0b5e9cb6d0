-- What a form has without its arguments.
use Rattle.std.proofs.Common.{length, sym, ap, ◌∙◌}
use Rattle.fvn_flat.specs.Own.{own}
use Rattle.fvn_terms.specs.Equality.{is_sum}
use Rattle.fvn_combine_unfolding.proofs.Measuring.{own_of_variable, own_of_some}
use Rattle.fvn_combine_unfolding.proofs.sizes.own_size.Goals as goal

pub returns-in-None : goal.returns-in-None
returns-in-None c = own_of_variable c.args.t.now (sym c.head.ensures ∙ c.in-None.is)

pub returns-in-Some : goal.returns-in-Some
returns-in-Some c =
    c.own_symbols.ensures
    ∙ ap (λ j. own j (length c.args-us.result.now)) (c.is_sum.ensures.exact ∙ ap is_sum c.axioms.ensures)
    ∙ ap (own _) (ap length c.args-us.ensures.exact)
    ∙ own_of_some c.args.sig.now c.args.t.now c.in-Some.f c.requires (sym c.head.ensures ∙ c.in-Some.is)
