-- The sum of no terms, of one, and of two or more.
use Rattle.std.proofs.Common.{◌≡◌, ◌≤◌, [], length, sym, ap, ◌∙◌, subst}
use Rattle.std.specs.Prelude.{◌==◌}
use Rattle.fvn_terms.specs.declared.plain.OpId.{OpId}
use Rattle.fvn_forms.specs.Canon.{build}
use Rattle.fvn_flat.specs.Fits.{Takes}
use Rattle.fvn_combine_triangular.proofs.Summing.{sum_of_one, none_of_length, two_of_length, summands_fit, takes_summands, build_is_sum, unit_takes, unit_is_sum}
use Rattle.fvn_combine_triangular.proofs.terms.sum_over.Goals as goal
use Rattle.fvn_combine_triangular.proofs.terms.sum_over.Goals.{Then-is_empty, Else-is_empty}

empty : (c : Then-is_empty) → c.args.terms.items ≡ []
empty c = none_of_length c.args.terms.items (c.if-is_empty.ensures ∙ ap (λ n. n == 0) c.args.terms.ok.0)

two : (c : Else-is_empty) → 2 ≤ length c.args.terms.items
two c = two_of_length c.args.terms.items (c.if-is_empty.ensures ∙ ap (λ n. n == 0) c.args.terms.ok.0) (λ n. c.if-len-eq1.false (c.len.ensures ∙ c.args.terms.ok.0 ∙ n))

pub app-requires-clause-fit : goal.app-requires-clause-fit
app-requires-clause-fit c = summands_fit c.recall_good.ensures.fits c.requires

pub app-requires-clause-takes : goal.app-requires-clause-takes
app-requires-clause-takes c =
    subst (λ (e : OpId). Takes c.args.sig.now e c.args.terms.items) (sym c.unwrap_or.ensures)
    (unit_takes c.recall_good.ensures.fits c.requires (empty (goal.at.app-requires-clause-takes c).Then-is_empty) c.identity.result c.identity.ensures)

pub app-requires-2-clause-fit : goal.app-requires-2-clause-fit
app-requires-2-clause-fit c = summands_fit c.recall_good.ensures.fits c.requires

pub app-requires-2-clause-takes : goal.app-requires-2-clause-takes
app-requires-2-clause-takes c = takes_summands c.recall_good.ensures.fits c.requires (two c)

pub returns-then-len-eq1 : goal.returns-then-len-eq1
returns-then-len-eq1 c = record { exact = sum_of_one c.args.sig.now c.args.f c.args.terms.items c.remove.result (sym c.args.terms.ok.0 ∙ sym c.len.ensures ∙ c.if-len-eq1.true) c.remove.ensures.value }

pub returns-then-is_empty : goal.returns-then-is_empty
returns-then-is_empty c = record {
  exact =
      c.in_ok-t.ensures.exact
      ∙ ap (λ (e : OpId). build c.args.sig.now e c.args.terms.items) c.unwrap_or.ensures
      ∙ unit_is_sum c.recall_good.ensures.fits c.requires (empty (goal.at.returns-then-is_empty c).Then-is_empty) c.identity.result c.identity.ensures;
}

pub returns : goal.returns
returns c = record { exact = c.in_ok-t-2.ensures.exact ∙ build_is_sum c.recall_good.ensures.fits c.requires (two (goal.at.returns c).Else-is_empty) }
