-- First the values are tested, and only then the terms brought to normal form.
use Rattle.std.proofs.Common.{true, sym, subst}
use Rattle.std.specs.Prelude.{All}
use Rattle.fvn_terms.specs.declared.plain.Var.{Var}
use Rattle.fvn_terms.specs.declared.declarations.Declarations.{Declarations}
use Rattle.fvn_terms.specs.Signature.{IsSort}
use Rattle.fvn_flat.specs.Bindings.{BindingsFit}
use Rattle.fvn_rewrite.specs.Usable.{equations_by}
use Rattle.fvn_narrow_children.specs.Values.{AreValuesUnder, IsLargeValue, AreSmallValues, AreIrreducible, AreReducibleAs}
use Rattle.fvn_narrow_children.proofs.MovedFacts.{names_sorted, moved_is_lost}
use Rattle.fvn_narrow_children.proofs.TriedFacts.{lost_is, not_lost, large_stops}
use Rattle.fvn_narrow_children.proofs.growing.tried.Goals as goal

pub some_moved-requires : goal.some_moved-requires
some_moved-requires c = record {
  sorts = names_sorted c.args.rewriter.now c.args.v.now c.requires.variant c.args.names.now c.requires.names;
  values = c.requires.unifier;
}

pub returns-then-moved : goal.returns-then-moved
returns-then-moved c =
    let r = c.args.rewriter.now in
    moved_is_lost r c.args.v.now c.requires.variant c.args.names.now c.requires.names c.recall.ensures.good (c.rewriting_is_lawful.ensures r.signature (equations_by r)) (c.sequences_are_lawful.ensures r.signature (equations_by r))
    c.args.members.now c.args.s.now c.requires.unifier (c.in_ok-moved.ensures c.if-moved.true)

pub values_under-requires : goal.values_under-requires
values_under-requires c = record {
  values = subst (λ (d : Declarations). BindingsFit d c.args.v.now.subst) (sym c.signature.ensures) c.requires.variant.values;
  subst = subst (λ (d : Declarations). BindingsFit d c.args.s.now) (sym c.signature.ensures) c.requires.unifier;
}

pub some_reducible-requires : goal.some_reducible-requires
some_reducible-requires c =
    let r = c.args.rewriter.now in record {
      sorts = subst (All (λ (x : Var). IsSort r.signature x.sort)) (sym c.as_slice-vars.ensures) c.requires.variant.vars;
      values = subst (λ (d : Declarations). BindingsFit d c.in_ok-subst.subst) c.signature.ensures c.in_ok-subst.ensures.fits;
      old = subst (λ vars. AreIrreducible r.signature (equations_by r) vars c.args.v.now.subst) (sym c.as_slice-vars.ensures) c.requires.irreducible;
    }

pub with_terms-requires : goal.with_terms-requires
with_terms-requires c =
    let r = c.args.rewriter.now in
    let own = c.in_ok-subst.subst in
    let values : AreValuesUnder r.signature c.args.v.now c.args.s.now own = subst (λ (d : Declarations). AreValuesUnder d c.args.v.now c.args.s.now own) c.signature.ensures c.in_ok-subst.ensures in
    let irreducible : AreIrreducible r.signature (equations_by r) c.args.v.now.vars own =
    subst (λ vars. AreIrreducible r.signature (equations_by r) vars own) c.as_slice-vars.ensures (rw c.if-lost.false at c.in_ok-lost.ensures) in record {
      unifier = c.requires.unifier;
      members = c.requires.members;
      values = values;
      small = subst (AreSmallValues c.args.v.now.vars own) c.requires.size (subst (λ vars. AreSmallValues vars own c.args.size) c.as_slice-vars.ensures (rw c.in_default.is at c.in_ok-large.ensures));
      kept = not_lost r c.args.v.now c.args.members.now c.args.s.now own values irreducible;
      irreducible = irreducible;
    }

pub returns-then-lost : goal.returns-then-lost
returns-then-lost c =
    let r = c.args.rewriter.now in
    lost_is r c.args.v.now c.args.members.now c.args.s.now c.in_ok-subst.subst
    (subst (λ (d : Declarations). AreValuesUnder d c.args.v.now c.args.s.now c.in_ok-subst.subst) c.signature.ensures c.in_ok-subst.ensures)
    (subst (λ vars. AreReducibleAs r.signature (equations_by r) vars c.in_ok-subst.subst true) c.as_slice-vars.ensures (rw c.if-lost.true at c.in_ok-lost.ensures))

pub returns-in-Some : goal.returns-in-Some
returns-in-Some c =
    let r = c.args.rewriter.now in
    let own = c.in_ok-subst.subst in
    let values : AreValuesUnder r.signature c.args.v.now c.args.s.now own = subst (λ (d : Declarations). AreValuesUnder d c.args.v.now c.args.s.now own) c.signature.ensures c.in_ok-subst.ensures in
    let irreducible : AreIrreducible r.signature (equations_by r) c.args.v.now.vars own =
    subst (λ vars. AreIrreducible r.signature (equations_by r) vars own) c.as_slice-vars.ensures (rw c.if-lost.false at c.in_ok-lost.ensures) in (
      large_stops r c.args.v.now c.args.members.now c.args.s.now own c.requires.variant c.args.size c.requires.size c.in-Some.t values
          (subst (λ vars. IsLargeValue vars own c.args.size c.in-Some.t) c.as_slice-vars.ensures (rw c.in-Some.is at c.in_ok-large.ensures)),
      not_lost r c.args.v.now c.args.members.now c.args.s.now own values irreducible,
    )
