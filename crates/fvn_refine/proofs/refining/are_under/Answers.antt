-- One more row.
use Rattle.std.proofs.Common.{sym, subst, inl, inr}
use Rattle.std.specs.List.{Contains}
use Rattle.std.proofs.lemmas.Bool.{false≢true}
use Rattle.std.proofs.lemmas.List.{take_all}
use Rattle.fvn_base.proofs.Membership.{contains_none}
use Rattle.fvn_forms.specs.Flat.{fvar}
use Rattle.fvn_refine.specs.inner.Rows.{IsRow}
use Rattle.fvn_refine.specs.inner.Found.{IsUnder}
use Rattle.fvn_refine.proofs.Finding.{taken_cases}
use Rattle.fvn_refine.proofs.refining.are_under.Goals as goal

pub loop-row-init : goal.loop-row-init
loop-row-init c = λ r k. absurd (contains_none r k)

pub is_under-requires : goal.is_under-requires
is_under-requires c =
    subst (IsRow c.args.search.now.sig.now c.args.search.now.vars.now) (sym c.as_slice.ensures)
    (c.requires c.row-item.result (c.loop-row.row-index, c.loop-row-test.true, sym c.row-item.is))

pub returns-then-not-is_under : goal.returns-then-not-is_under
returns-then-not-is_under c = λ t. absurd (false≢true t)

pub loop-row-preserved : goal.loop-row-preserved
loop-row-preserved c = λ r k.
    let Mine = IsUnder c.args.search.now.sig.now c.args.search.now.vars.now (fvar c.args.y) c.args.s in
    elim (taken_cases c.args.rows.now c.loop-row.row-index c.row-item.result c.loop-row-test.true c.row-item.is r k) [
      | inl before ↦ c.loop-row.invariant r before
      | inr e ↦ subst Mine e (subst Mine c.as_slice.ensures (c.is_under.ensures c.if-not-is_under.false))
    ]

pub returns : goal.returns
returns c = λ _. λ r k. c.loop-row.invariant r (subst (λ z. Contains z r) (sym (take_all c.loop-row.row-index c.args.rows.now c.loop-row-test.false)) k)
