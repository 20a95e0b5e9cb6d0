-- One row more, and all of them in the end.
use Rattle.std.proofs.Common.{pos, get_or, refl, of_z, w32, ap, sym, ◌∙◌, FitsSigned, rules}
use Rattle.fvn_lindio.proofs.ValueLemmas.{zero_read}
use Rattle.fvn_lindio.proofs.GeneratorLemmas.{ZeroIn}
use Rattle.fvn_base.proofs.MappedLists.{all_mapped_more, all_mapped_all, all_mapped_at}
use Rattle.fvn_lindio.proofs.generators.is_unused.Goals as goal

pub returns-then-as_slice-column-ne0 : goal.returns-then-as_slice-column-ne0
returns-then-as_slice-column-ne0 c =
    (λ h. absurd (let k = h in cc), λ h. let here = all_mapped_at (λ r. r.coefficients) (ZeroIn c.args.column) c.args.rows.now c.loop-row.row-index c.row-item.result c.as_slice.result.now c.loop-row-test.true c.row-item.is c.as_slice.ensures h in absurd (c.if-as_slice-column-ne0.true (ap (of_z w32) here)))

pub loop-row-preserved : goal.loop-row-preserved
loop-row-preserved c =
    let fits : FitsSigned w32 (get_or c.as_slice.result.now c.args.column (pos 0)) = search rules in
    let zero = zero_read (get_or c.as_slice.result.now c.args.column (pos 0)) fits c.if-as_slice-column-ne0.false in
    all_mapped_more (λ r. r.coefficients) (ZeroIn c.args.column) c.args.rows.now c.loop-row.row-index c.row-item.result c.loop-row-test.true c.row-item.is (ap (λ r. get_or r c.args.column (pos 0)) (sym c.as_slice.ensures) ∙ zero) c.loop-row.invariant

pub returns : goal.returns
returns c = (λ _. all_mapped_all (λ r. r.coefficients) (ZeroIn c.args.column) c.args.rows.now c.loop-row.row-index c.loop-row-test.false c.loop-row.invariant, λ _. refl)
