-- One more column.
use Rattle.std.proofs.Common.{ℕ, List, length, get_or, drop, sym, ap, ◌∙◌, arith}
use Rattle.std.proofs.lemmas.List.{drop_all, get_or_default, get_or_past}
use Rattle.fvn_flat.specs.SolvedLists.{component}
use Rattle.fvn_combine_triangular.proofs.Members.{component_other, component_here}
use Rattle.fvn_combine_triangular.proofs.terms.column_of.Goals as goal

pub loop-j-preserved : goal.loop-j-preserved
loop-j-preserved c = λ v e.
    let j = c.loop-j.j in
    let columns = c.args.columns.now in
    c.loop-j.invariant v e ∙ component_other columns v j c.args.k (get_or columns j 0) e c.loop-j-test.true (get_or_default columns j 0 (get_or columns j 0) c.loop-j-test.true) c.if-columns-j.false

pub returns-then-columns-j : goal.returns-then-columns-j
returns-then-columns-j c = λ v e.
    let j = c.loop-j.j in
    let columns = c.args.columns.now in
    let t = c.loop-j-test.true in
    c.loop-j.invariant v e
    ∙ component_here columns v j c.args.k (get_or columns j 0) (get_or v j 0) e t (get_or_default columns j 0 (get_or columns j 0) t) c.if-columns-j.true (get_or_default v j 0 (get_or v j 0) (omega (arith, e, t)))

pub returns : goal.returns
returns c = λ v e.
    let columns = c.args.columns.now in
    let t = c.loop-j-test.false in
    c.loop-j.invariant v e
    ∙ ap (λ (cs : List ℕ). component cs (drop c.loop-j.j v) c.args.k) (drop_all c.loop-j.j columns t)
    ∙ sym (get_or_past v (length columns) 0 (omega (arith, e)))
