-- The row of one more column.
use Rattle.std.proofs.Common.{◌≡◌, of_z, w32, ℕ, ℤ, List, Contains, pos, ◌+◌, ◌<◌, [], ◌∷◌, ◌++◌, length, get_or, sym, ap, ◌∙◌, subst, refl, arith, All}
use Rattle.std.proofs.lemmas.List.Elements.{Contains-push}
use Rattle.fvn_combine_candidates.specs.inner.Alive.{AreRowsBelow, IsApartFrom, HasRowFor}
use Rattle.fvn_combine_candidates.proofs.Living.{zero_read, rows_start, rows_unmarked, rows_there, rows_more, covering}
use Rattle.fvn_combine_candidates.proofs.alive.marked_rows.Goals as goal

pub loop-i-init : goal.loop-i-init
loop-i-init c =
    subst (AreRowsBelow c.args.state.now c.args.heads.now c.args.sums.now c.in_ok-first.first 0)
    (sym (c.in_ok-push.ensures.items ∙ ap (λ rows. rows ++ c.in_ok-copy.copy ∷ []) c.new-rows.ensures.items ∙ ap (λ row. row ∷ []) c.in_ok-copy.ensures))
    (rows_start c.args.state.now c.args.heads.now c.args.sums.now c.in_ok-first.first c.in_ok-first.ensures)

pub bounds-as_slice-i : goal.bounds-as_slice-i
bounds-as_slice-i c =
    let same = ap length c.as_slice-columns.ensures in
    let long = c.in_ok-first.ensures.sized in
    let over = c.loop-i-test.true in
    subst (λ xs. c.loop-i.i < length xs) (sym c.as_slice.ensures) (omega (arith, same, long, over))

pub row_beside-requires-clause-class : goal.row_beside-requires-clause-class
row_beside-requires-clause-class c =
    subst (λ xs. All (λ n. n < length c.args.state.now.names) xs) (sym c.as_slice-columns.ensures) c.requires.within c.loop-i.i 0 c.loop-i-test.true

pub loop-i-preserved-then-as_slice-i-eq0 : goal.loop-i-preserved-then-as_slice-i-eq0
loop-i-preserved-then-as_slice-i-eq0 c =
    rows_unmarked c.args.state.now c.args.heads.now c.args.sums.now c.in_ok-first.first c.in_ok-first.ensures c.loop-i.i c.loop-i.rows.items c.loop-i.invariant (zero_read c.in_ok-first.first.coefficients c.in_ok-first.ensures.marks c.loop-i.i (subst (λ (xs : List ℤ). of_z w32 (get_or xs c.loop-i.i (pos 0)) ≡ 0) c.as_slice.ensures c.if-as_slice-i-eq0.true))

pub loop-i-preserved-then-is_among : goal.loop-i-preserved-then-is_among
loop-i-preserved-then-is_among c =
    rows_there c.args.state.now c.args.heads.now c.args.sums.now c.in_ok-first.first c.in_ok-first.ensures c.loop-i.i c.loop-i.rows.items c.loop-i.invariant
    (record { row = c.in_ok-row.row; listed = subst (λ xs. Contains xs c.in_ok-row.row) c.as_slice-in-loop-i.ensures.value (c.if-is_among.ensures refl); marking = c.in_ok-row.ensures.marking; apart = subst (λ xs. IsApartFrom c.args.state.now c.args.heads.now c.args.sums.now (get_or xs c.loop-i.i 0) c.in_ok-row.row.coefficients) c.as_slice-columns.ensures c.in_ok-row.ensures.apart })

pub loop-i-preserved : goal.loop-i-preserved
loop-i-preserved c =
    let s = c.args.state.now in
    let heads = c.args.heads.now in
    let e = c.args.sums.now in
    let first = c.in_ok-first.first in
    let marking = c.in_ok-first.ensures in
    let row = c.in_ok-row.row in
    let rows = c.loop-i.rows.items ++ row ∷ [] in
    subst (AreRowsBelow s heads e first (c.loop-i.i + 1)) (sym c.in_ok-push-2.ensures.items)
    (rows_there s heads e first marking c.loop-i.i rows (rows_more s heads e first marking c.loop-i.i c.loop-i.rows.items c.loop-i.invariant row c.in_ok-row.ensures.marking)
    (record { row = row; listed = Contains-push c.loop-i.rows.items row; marking = c.in_ok-row.ensures.marking; apart = subst (λ xs. IsApartFrom s heads e (get_or xs c.loop-i.i 0) row.coefficients) c.as_slice-columns.ensures c.in_ok-row.ensures.apart }))

pub returns : goal.returns
returns c =
    let same = ap length c.as_slice-columns.ensures in
    let over = c.loop-i-test.false in
    covering c.args.state.now c.args.heads.now c.args.sums.now c.in_ok-first.first c.in_ok-first.ensures c.loop-i.i c.loop-i.rows.items (omega (arith, same, over)) c.loop-i.invariant
