-- What the tests found is what a theory keeps to.
use Rattle.std.proofs.Common.{◌≡◌, ◌≢◌, ◌<◌, ◌≤◌, length, All, AllPairs, unsigned_abs, subst, arith}
use Rattle.std.proofs.lemmas.List.Elements.{All-map, All-weaker}
use Rattle.fvn_lindio.specs.declared.system.Row.{Row}
use Rattle.fvn_tests_choices.proofs.tests.kept.keeps.Goals as goal

pub returns : goal.returns
returns c = λ t.
    let system = c.args.theory.now.system in
    let P : Row → Type 0 = λ row. (length row.coefficients ≡ system.columns) × All (λ k. unsigned_abs k ≤ 65535) row.coefficients in
    let rows : All P system.rows = subst (All P) c.as_slice.ensures (c.are_rows.ensures t) in
    record {
      system = record {
        columns = c.if-columns-gt1000.false;
        sized = All-map (λ row. length row ≡ system.columns) (λ row. row.coefficients) system.rows (All-weaker P (λ row. length row.coefficients ≡ system.columns) (λ row p. p.0) system.rows rows);
        bounded = All-map (All (λ k. unsigned_abs k ≤ 65535)) (λ row. row.coefficients) system.rows (All-weaker P (λ row. All (λ k. unsigned_abs k ≤ 65535) row.coefficients) (λ row p. p.1) system.rows rows);
      };
      marked = omega (arith, c.len.ensures, c.if-len-columns.false);
      among = subst (All (λ k. k < system.columns)) c.as_slice-constants.ensures (c.is_below.ensures c.if-not-is_below.false);
      apart = subst (AllPairs ◌≢◌) c.as_slice-constants.ensures (c.is_distinct.ensures c.if-not-is_distinct.false);
    }
