-- The parts of a draft go together when one more name is declared.
use Rattle.std.proofs.Common.{◌<◌, ◌≤◌, length, sym, ap, subst, ◌∙◌, arith}
use Rattle.std.proofs.lemmas.List.{with_items_is}
use Rattle.fvn_base.specs.declared.limits.TheConstants.{OPERATORS}
use Rattle.fvn_signature_draft.specs.declared.collected.Collected.{Collected}
use Rattle.fvn_syntax.specs.Texts.{with_text}
use Rattle.fvn_module_declarations.specs.inner.Drafts.{Draft}
use Rattle.fvn_module_names.proofs.TextCounts.{length-with_text}
use Rattle.fvn_module_declarations.proofs.drafts.Draft.add.Goals as goal
use Rattle.fvn_module_declarations.proofs.drafts.Draft.add.Goals.{In_ok-place}

few : (c : In_ok-place) → c.in_ok-place.place < OPERATORS
few c =
    let room = subst (λ (d : Draft). length (with_text d.names c.args.name.now) ≤ OPERATORS) (sym c.self.view_is) c.requires.few in
    let e = (length-with_text c.self.inside.names c.args.name.now).1 in
    let p = c.in_ok-place.ensures.place in
    omega arith

pub take_axioms-axioms-requires : goal.take_axioms-axioms-requires
take_axioms-axioms-requires c =
    let f = few (goal.at.take_axioms-axioms-requires c).In_ok-place in
    let long = c.self.invariant.long in
    let now = ap length c.as_mut_slice.ensures.value in
    omega arith

pub overflow_cast-place : goal.overflow_cast-place
overflow_cast-place c = let f = few (goal.at.overflow_cast-place c).In_ok-place in omega (arith, f)

pub add_new-requires-clause-known_or_next : goal.add_new-requires-clause-known_or_next
add_new-requires-clause-known_or_next c =
    let l = (length-with_text c.self.inside.names c.args.name.now).0 in
    let p = c.in_ok-place.ensures.place in
    let n = c.self.invariant.count in
    omega arith

pub invariant_of-result : goal.invariant_of-result
invariant_of-result c = record {
  codes_are = c.in_ok-builder.ensures.codes;
  count =
      let e = (length-with_text c.self.inside.names c.args.name.now).1 in
      let p = c.in_ok-place.ensures.place in
      let n = c.self.invariant.count in
      let t = ap length c.in_ok-place.ensures.texts in
      let o = ap (λ (b : Collected). b.operators) c.in_ok-builder.ensures.exact in
      omega arith;
  long =
      let now = ap length (with_items_is c.self.inside.latest c.take_axioms-axioms.new.latest (c.take_axioms-axioms.auto.latest ∙ c.as_mut_slice.ensures.len)) in
      let same = c.take_axioms-axioms.auto.latest in
      let was = ap length c.as_mut_slice.ensures.value in
      let long = c.self.invariant.long in
      omega arith;
}
