-- One row more, and all of them in the end.
use Rattle.std.proofs.Common.{◌≡◌, ◌≤◌, length, sym, subst, ◌∙◌}
use Rattle.std.specs.Prelude.{unsigned_abs}
use Rattle.std.specs.List.{All}
use Rattle.fvn_base.proofs.MappedLists.{all_mapped_more, all_mapped_all}
use Rattle.fvn_tests_choices.proofs.tests.systems.are_rows.Goals as goal

pub loop-row-preserved : goal.loop-row-preserved
loop-row-preserved c =
    let sized = sym c.len.ensures ∙ c.if-len-columns.false in
    let small = subst (All (λ c. unsigned_abs c ≤ 65535)) c.as_slice.ensures (c.are_small.ensures c.if-not-are_small.false) in (
      all_mapped_more (λ r. r.coefficients) (λ r. length r ≡ c.args.columns) c.args.rows.now c.loop-row.row-index c.row-item.result c.loop-row-test.true c.row-item.is sized c.loop-row.invariant.0,
      all_mapped_more (λ r. r.coefficients) (All (λ c. unsigned_abs c ≤ 65535)) c.args.rows.now c.loop-row.row-index c.row-item.result c.loop-row-test.true c.row-item.is small c.loop-row.invariant.1,
    )

pub returns-clause-sized : goal.returns-clause-sized
returns-clause-sized c = λ _. all_mapped_all (λ r. r.coefficients) (λ r. length r ≡ c.args.columns) c.args.rows.now c.loop-row.row-index c.loop-row-test.false c.loop-row.invariant.0

pub returns-clause-bounded : goal.returns-clause-bounded
returns-clause-bounded c = λ _. all_mapped_all (λ r. r.coefficients) (All (λ c. unsigned_abs c ≤ 65535)) c.args.rows.now c.loop-row.row-index c.loop-row-test.false c.loop-row.invariant.1
