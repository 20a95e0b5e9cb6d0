-- One unifier more.
use Rattle.std.proofs.Common.{sym, ◌∙◌, subst}
use Rattle.std.proofs.lemmas.List.Elements.{All-get_or}
use Rattle.fvn_flat.specs.Bindings.{BindingsFit}
use Rattle.fvn_exploring.specs.declared.ends.ExpandEnd.TheVariants.{Whole}
use Rattle.fvn_narrow_children.specs.Growing.{AreGrown}
use Rattle.fvn_narrow_children.proofs.GrownFacts.{AreGrownSoFar, grown_begin, grown_whole, taken_more, taken_stopped}
use Rattle.fvn_narrow_children.proofs.growing.grown.Goals as goal

pub tried-requires : goal.tried-requires
tried-requires c =
    let d = c.args.rewriter.now.signature in record {
      size = c.requires.size;
      unifier = subst (BindingsFit d) (sym c.s-item.is) (All-get_or (BindingsFit d) c.args.unifiers.now c.loop-s.s-index c.s-item.result c.loop-s-test.true c.requires.unifiers);
      members = c.requires.members;
      variant = c.requires.variant;
      irreducible = c.requires.irreducible;
      names = c.as_slice.ensures.value ∙ c.in_ok-names.ensures;
    }

pub loop-s-init : goal.loop-s-init
loop-s-init c =
    let r = c.args.rewriter.now in
    subst (AreGrownSoFar r c.args.v.now c.args.members.now c.args.unifiers.now 0) (sym c.new-children.ensures.items) (grown_begin r c.args.v.now c.args.members.now c.args.unifiers.now)

pub loop-s-preserved : goal.loop-s-preserved
loop-s-preserved c =
    taken_more c.args.rewriter.now c.args.v.now c.args.members.now c.args.unifiers.now c.loop-s.s-index c.loop-s.children.items c.loop-s.invariant c.s-item.result c.loop-s-test.true c.s-item.is
    c.in_ok-next.next c.in_ok-next.ensures c.in_ok-all.all.items c.in_ok-all.stop c.in_default.is c.in_ok-all.ensures

pub returns-in-Some : goal.returns-in-Some
returns-in-Some c =
    let r = c.args.rewriter.now in
    subst (λ l. AreGrown r c.args.v.now c.args.members.now c.args.unifiers.now record { children = l; end = c.in-Some.end }) (sym c.from_vec.ensures)
    (taken_stopped r c.args.v.now c.args.members.now c.args.unifiers.now c.loop-s.s-index c.loop-s.children.items c.loop-s.invariant c.s-item.result c.loop-s-test.true c.s-item.is
    c.in_ok-next.next c.in_ok-next.ensures c.in_ok-all.all.items c.in_ok-all.stop c.in-Some.end c.in-Some.is c.in_ok-all.ensures)

pub returns : goal.returns
returns c =
    let r = c.args.rewriter.now in
    subst (λ l. AreGrown r c.args.v.now c.args.members.now c.args.unifiers.now record { children = l; end = Whole }) (sym c.from_vec-2.ensures)
    (grown_whole r c.args.v.now c.args.members.now c.args.unifiers.now c.loop-s.s-index c.loop-s.children.items c.loop-s.invariant c.loop-s-test.false)
