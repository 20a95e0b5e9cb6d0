-- What is gathered at rows that cover.
use Rattle.std.proofs.Common.{◌≡◌, List, length, sym, ap, ◌∙◌, subst, arith, All}
use Rattle.fvn_lindio.specs.declared.system.Row.{Row}
use Rattle.fvn_combine_candidates.specs.inner.Alive.{IsMarking, AreGathered, IsBasisBy}
use Rattle.fvn_combine_candidates.proofs.Living.{basis_by}
use Rattle.fvn_combine_candidates.proofs.alive.alive_basis.Goals as goal

pub gathered-requires-clause-rows : goal.gathered-requires-clause-rows
gathered-requires-clause-rows c =
    subst (λ n. All (λ (row : Row). IsMarking n row.coefficients) c.as_slice.result.now) (sym c.requires.wide)
    (subst (λ (rows : List Row). All (λ row. IsMarking (length c.args.sums.now.columns) row.coefficients) rows) (sym c.as_slice.ensures.value) c.in_ok-rows.ensures.markings)

pub returns : goal.returns
returns c =
    let rows = c.in_ok-rows.rows.items in
    let g = subst (λ (xs : List Row). AreGathered c.args.sums.now.system xs (length xs) c.in-Some.list.items) c.as_slice.ensures.value (rw c.in-Some.is at c.in_ok-gathered.ensures) in
    subst (IsBasisBy c.args.state.now c.args.heads.now c.args.sums.now) (sym c.from_vec.ensures)
    (basis_by c.args.state.now c.args.heads.now c.args.sums.now rows c.in-Some.list.items c.requires.wide c.in_ok-rows.ensures g (omega (arith, c.if-len-gt-LISTED_SOLUTIONS.false, c.len-in-Some.ensures, c.in-Some.list.ok.0)))
