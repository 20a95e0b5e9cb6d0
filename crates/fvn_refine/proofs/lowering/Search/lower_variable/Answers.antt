-- What is found for a variable.
use Rattle.std.proofs.Common.{◌≡◌, sym, ap, subst, ◌∙◌, arith}
use Rattle.std.proofs.lemmas.Bool.{false≢true}
use Rattle.fvn_refine.specs.inner.Rows.{beside}
use Rattle.fvn_refine.specs.inner.Found.{Finds}
use Rattle.fvn_refine.proofs.Ways.{row_long}
use Rattle.fvn_refine.proofs.Tried.{IsLowered, HasTried, tried_none, tried_more, lowered_here, lowered_none, lowered_tried}
use Rattle.fvn_refine.proofs.lowering.Search.lower_variable.Goals as goal

pub beside-here-requires : goal.beside-here-requires
beside-here-requires c = row_long c.args.self.now.sig.now c.args.self.now.vars.now c.args.way.now c.requires.row

pub with_sort-requires : goal.with_sort-requires
with_sort-requires c = row_long c.args.self.now.sig.now c.args.self.now.vars.now c.args.way.now c.requires.row

pub returns-then-leq : goal.returns-then-leq
returns-then-leq c =
    let d = c.args.self.now.sig.now in
    let xs = c.args.self.now.vars.now in
    lowered_here d xs c.args.way.now c.args.y c.beside-here.result c.args.s c.requires.row
    (c.beside-here.ensures ∙ ap (beside xs c.args.way.now c.args.y) c.kind-kind.ensures.exact) (c.leq.ensures.0 c.if-leq.true) c.in_ok-rows.rows.items c.in_ok-rows.ensures

pub returns-then-not-is_listed : goal.returns-then-not-is_listed
returns-then-not-is_listed c =
    let d = c.args.self.now.sig.now in
    let xs = c.args.self.now.vars.now in
    subst (Finds d xs (IsLowered d xs c.args.way.now c.args.y c.beside-here.result c.args.s)) (sym c.new-rows.ensures.items)
    (lowered_none d xs c.args.way.now c.args.y c.beside-here.result c.args.s c.requires.row
    (c.beside-here.ensures ∙ ap (beside xs c.args.way.now c.args.y) c.kind-kind.ensures.exact) (λ h. false≢true (sym c.if-leq.false ∙ c.leq.ensures.1 h)) (sym c.is_listed.ensures ∙ c.if-not-is_listed.true))

pub loop-n-init : goal.loop-n-init
loop-n-init c =
    subst (HasTried c.args.self.now.sig.now c.args.self.now.vars.now c.args.way.now c.args.y c.beside-here.result c.args.s 0) (sym c.new-rows.ensures.items)
    (tried_none c.args.self.now.sig.now c.args.self.now.vars.now c.args.way.now c.args.y c.beside-here.result c.args.s)

pub loop-n-preserved : goal.loop-n-preserved
loop-n-preserved c =
    tried_more c.args.self.now.sig.now c.args.self.now.vars.now c.args.way.now c.args.y c.beside-here.result c.args.s c.loop-n.n c.loop-n.rows.items c.in_ok-rows-2.rows.items c.loop-n.invariant c.in_ok-rows-2.ensures

pub returns : goal.returns
returns c =
    let d = c.args.self.now.sig.now in
    let xs = c.args.self.now.vars.now in
    let at : c.loop-n.n ≡ c.declarations.result.now.sorts = omega (arith, c.loop-n-test.false, c.loop-n.auto.n-end) in
    lowered_tried d xs c.args.way.now c.args.y c.beside-here.result c.args.s c.requires.row
    (c.beside-here.ensures ∙ ap (beside xs c.args.way.now c.args.y) c.kind-kind.ensures.exact)
    c.recall_good.ensures c.recall_completed.ensures (λ h. false≢true (sym c.if-leq.false ∙ c.leq.ensures.1 h)) (sym c.is_listed.ensures ∙ c.if-not-is_listed.false) c.loop-n.rows.items
    (subst (λ k. HasTried d xs c.args.way.now c.args.y c.beside-here.result c.args.s k c.loop-n.rows.items) (at ∙ ap (λ q. q.sorts) c.declarations.ensures) c.loop-n.invariant)
