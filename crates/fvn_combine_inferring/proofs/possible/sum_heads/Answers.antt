-- A node that is added has a head.
use Rattle.std.proofs.Common.{List, length, refl, sym, ap, ◌∙◌, subst, inr, arith, Option}
use Rattle.fvn_terms.specs.declared.plain.OpId.{OpId}
use Rattle.fvn_combine_nodes.specs.States.{class_of}
use Rattle.fvn_combine_inferring.specs.inner.Bounds.{IsNotedOfEither}
use Rattle.fvn_combine_inferring.proofs.EitherHead.{last_step, added_either}
use Rattle.fvn_combine_inferring.proofs.possible.sum_heads.Goals as goal

pub loop-step-init : goal.loop-step-init
loop-step-init c = record { within = c.requires.within; added = λ values go some. inr refl }

pub added_head-requires : goal.added_head-requires
added_head-requires c =
    let w = c.requires.closed.whole in
    let n = c.requires.heads.as_many in
    let e = ap length c.as_slice.ensures.value in
    let a = c.in-Some.ensures.within.0 in
    let b = c.in-Some.ensures.within.1 in
    record { left = omega (arith, w, a); right = omega (arith, w, b); heads = omega (arith, w, n, e); naming = c.requires.closed.naming }

pub loop-step-preserved : goal.loop-step-preserved
loop-step-preserved c = record {
  within = c.in-Some.ensures.within.1;
  added = last_step c.args.sig.now c.args.table.now c.args.state.now c.args.known.now.sorted c.requires.closed c.args.known.now.heads.items c.requires.heads c.recall_well_made.ensures c.requires.sums c.args.f c.requires.associative c.args.i c.loop-step.last c.loop-step.invariant.within c.in-Some.p (sym c.addends.ensures.is ∙ c.in-Some.is) c.in-Some.ensures.within c.loop-step.invariant.added;
}

pub returns-in-Some-added_head : goal.returns-in-Some-added_head
returns-in-Some-added_head c =
    let d = c.args.sig.now in
    let s = c.args.state.now in
    let p = c.in-Some.p in
    let told = subst (λ (l : List (Option OpId)). IsNotedOfEither d c.args.f l (class_of s p.0) (class_of s p.1) c.in-Some-added_head.g) c.as_slice.ensures.value c.in-Some-added_head.ensures in
    added_either d c.args.table.now s c.args.known.now.sorted c.requires.closed c.args.known.now.heads.items c.requires.heads c.recall_well_made.ensures c.requires.sums c.args.f c.requires.associative c.args.i c.loop-step.last c.loop-step.invariant.within c.loop-step.invariant.added p (sym c.addends.ensures.is ∙ c.in-Some.is) c.in-Some.ensures.within c.in-Some-added_head.g told
