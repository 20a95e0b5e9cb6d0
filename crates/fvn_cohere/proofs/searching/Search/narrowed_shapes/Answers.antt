-- One shape more.
use Rattle.std.proofs.Common.{[], refl, sym, subst}
use Rattle.std.proofs.lemmas.List.{take_all}
use Rattle.fvn_cohere.specs.inner.Narrowing.{KeepsShapes}
use Rattle.fvn_cohere.proofs.Narrowed.{keeps_none, keeps_next, keeps_past}
use Rattle.fvn_cohere.proofs.searching.Search.narrowed_shapes.Goals as goal

pub loop-o-init : goal.loop-o-init
loop-o-init c = subst (KeepsShapes c.args.self.now c.args.others.now c.args.x []) (sym c.new-kept.ensures.items) (keeps_none c.args.self.now c.args.others.now c.args.x)

pub loop-o-preserved-then-is_excluded : goal.loop-o-preserved-then-is_excluded
loop-o-preserved-then-is_excluded c = keeps_past c.args.self.now c.args.others.now c.args.x _ _ _ c.loop-o.invariant c.loop-o.o-index c.args.shapes.now _ c.loop-o-test.true refl refl (c.is_excluded.ensures c.if-is_excluded.true)

pub loop-o-preserved : goal.loop-o-preserved
loop-o-preserved c = keeps_next c.args.self.now c.args.others.now c.args.x _ _ _ c.loop-o.invariant c.loop-o.o-index c.args.shapes.now c.push.new.self.items _ c.loop-o-test.true refl refl c.in_ok-push.ensures.items

pub returns : goal.returns
returns c = subst (λ l. KeepsShapes c.args.self.now c.args.others.now c.args.x l c.loop-o.kept.items) (take_all c.loop-o.o-index c.args.shapes.now c.loop-o-test.false) c.loop-o.invariant
