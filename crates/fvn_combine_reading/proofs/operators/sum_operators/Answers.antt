-- One more subterm.
use Rattle.std.proofs.Common.{◌<◌, ◌≤◌, length, take, get_or, sym, subst}
use Rattle.std.proofs.lemmas.List.{take_more, take_all}
use Rattle.fvn_combine_reading.specs.inner.Reading.{AreOperatorsAmong}
use Rattle.fvn_combine_reading.proofs.Gathered.{TellsOperator, more_among, operators_are}
use Rattle.fvn_combine_reading.proofs.operators.sum_operators.Goals as goal

pub loop-i-preserved : goal.loop-i-preserved
loop-i-preserved c =
    let d = c.args.sig.now in
    let t = c.args.table.now in
    let i = c.loop-i.i-index in
    let o = c.sum_operator-found.result in
    let now = c.add_operator.new.list.items in
    let l : i < length t.subterms = subst (λ xs. i < length xs) c.subterms-i-items.ensures c.loop-i-test.true in
    let tells : TellsOperator d t (get_or t.subterms i 0) o = subst (λ xs. TellsOperator d t (get_or xs i 0) o) c.subterms-i-items.ensures c.sum_operator-found.ensures in
    subst (λ xs. AreOperatorsAmong d t xs now) (sym (take_more t.subterms i 0 l))
    (more_among d t (take i t.subterms) c.loop-i.list.items now (get_or t.subterms i 0) c.loop-i.invariant o tells c.in_ok-add_operator.ensures)

pub returns : goal.returns
returns c =
    let d = c.args.sig.now in
    let t = c.args.table.now in
    let all : length t.subterms ≤ c.loop-i.i-index = subst (λ xs. length xs ≤ c.loop-i.i-index) c.subterms-i-items.ensures c.loop-i-test.false in
    operators_are d t c.loop-i.list.items (subst (λ xs. AreOperatorsAmong d t xs c.loop-i.list.items) (take_all c.loop-i.i-index t.subterms all) c.loop-i.invariant)
