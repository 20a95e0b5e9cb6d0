-- That the leaf's state admits a unifier's partition is kept beside.
use Rattle.std.proofs.Common.{sym, subst, Option, Some}
use Rattle.std.proofs.lemmas.Result.{err_from_is_err_and}
use Rattle.fvn_terms.specs.Substitution.{Substitution}
use Rattle.fvn_combine_nodes.specs.States.{Admits}
use Rattle.fvn_combine_nodes.specs.Unifiers.{kernel}
use Rattle.fvn_combine.specs.Leaves.{IsCoveredToCome}
use Rattle.fvn_combine.specs.Search.{IsCoveredAt}
use Rattle.fvn_combine.specs.declared.opened.Leaf.{Leaf}
use Rattle.fvn_combine.specs.inner.Found.{IsDrawnFrom, AreDrawnFrom, LeavesLess}
use Rattle.fvn_combine.specs.Work.{left_at}
use Rattle.fvn_combine.proofs.Walk.{drawn_beside}
use Rattle.fvn_combine.proofs.walking.next_in.Goals as goal

pub returns-in_err-drawn-in-Some-clause-drawn : goal.returns-in_err-drawn-in-Some-clause-drawn
returns-in_err-drawn-in-Some-clause-drawn c =
    let k = c.args.task.now in
    let w = c.in-Some.w in
    let after : Option Leaf = Some (record { state = w.state; opened = c.next_of_leaf.new.opened }) in
    let p = err_from_is_err_and c.from_residual.result c.from_residual.ensures.1 in
    subst (AreDrawnFrom k (IsCoveredAt k c.args.leaf.now) (IsCoveredAt k after)) (sym p.1)
    (subst (λ leaf. (u : Substitution) → IsCoveredAt k leaf u → IsCoveredAt k after u) (sym c.in-Some.is) (λ u h. (h.0, c.in_err-drawn-in-Some.ensures.drawn u h.1)))

pub returns-in_ok-drawn-in-Some-clause-drawn : goal.returns-in_ok-drawn-in-Some-clause-drawn
returns-in_ok-drawn-in-Some-clause-drawn c =
    let k = c.args.task.now in
    let w = c.in-Some.w in
    let after = c.next_of_leaf.new.opened in
    subst (λ leaf. IsDrawnFrom k (IsCoveredAt k leaf) (IsCoveredAt k (Some (record { state = w.state; opened = after }))) c.in_ok-drawn-in-Some.drawn) (sym c.in-Some.is)
    (drawn_beside k (IsCoveredToCome k w.state w.opened) (IsCoveredToCome k w.state after) (λ u. Admits w.state (kernel k.declarations u k.table.nodes)) c.in_ok-drawn-in-Some.drawn c.in_ok-drawn-in-Some.ensures.drawn)

pub returns-in_ok-drawn-in-Some-clause-falls : goal.returns-in_ok-drawn-in-Some-clause-falls
returns-in_ok-drawn-in-Some-clause-falls c =
    let k = c.args.task.now in
    let w = c.in-Some.w in
    let after = c.next_of_leaf.new.opened in
    subst (λ leaf. LeavesLess (left_at k leaf) (left_at k (Some (record { state = w.state; opened = after }))) c.in_ok-drawn-in-Some.drawn) (sym c.in-Some.is) c.in_ok-drawn-in-Some.ensures.falls
