-- One value more.
use Rattle.std.proofs.Common.{subst}
use Rattle.std.proofs.lemmas.List.{take_all}
use Rattle.std.proofs.lemmas.List.Elements.{All-get_or, All-more, Contains-get_or}
use Rattle.fvn_terms.specs.declared.plain.Var.{Var}
use Rattle.fvn_terms.specs.Signature.{IsSort}
use Rattle.fvn_terms.specs.Rewriting.{IsIrreducible}
use Rattle.fvn_flat.specs.Solving.{substitution}
use Rattle.fvn_rewrite.specs.Usable.{equations_by}
use Rattle.fvn_narrow_children.specs.Values.{AreIrreducible}
use Rattle.fvn_narrow_children.proofs.ValueFacts.{still_irreducible}
use Rattle.fvn_narrow_children.proofs.values.some_reducible.Goals as goal

pub is_reducible-requires : goal.is_reducible-requires
is_reducible-requires c = record {
  sort = All-get_or (λ (x : Var). IsSort c.args.rewriter.now.signature x.sort) c.args.vars.now c.loop-x.x-index _ c.loop-x-test.true c.requires.sorts;
  values = c.requires.values;
}

-- where it is as before
pub loop-x-preserved-then-is_as_before : goal.loop-x-preserved-then-is_as_before
loop-x-preserved-then-is_as_before c =
    let r = c.args.rewriter.now in
    All-more (λ x. IsIrreducible r.signature (equations_by r) (substitution c.args.new.now x)) c.args.vars.now c.loop-x.x-index _ c.loop-x-test.true c.loop-x.invariant
    (still_irreducible r.signature (equations_by r) c.args.old.now c.args.new.now _ (c.is_as_before.ensures c.if-is_as_before.true) (All-get_or (λ x. IsIrreducible r.signature (equations_by r) (substitution c.args.old.now x)) c.args.vars.now c.loop-x.x-index _ c.loop-x-test.true c.requires.old))

-- where it is not reducible
pub loop-x-preserved : goal.loop-x-preserved
loop-x-preserved c =
    let r = c.args.rewriter.now in
    All-more (λ x. IsIrreducible r.signature (equations_by r) (substitution c.args.new.now x)) c.args.vars.now c.loop-x.x-index _ c.loop-x-test.true c.loop-x.invariant (rw c.if-found.false at c.in_ok-found.ensures)

pub returns-then-found : goal.returns-then-found
returns-then-found c = record { variable = _; listed = Contains-get_or c.args.vars.now c.loop-x.x-index _ c.loop-x-test.true; reducible = rw c.if-found.true at c.in_ok-found.ensures }

pub returns : goal.returns
returns c =
    let r = c.args.rewriter.now in
    subst (λ vars. AreIrreducible r.signature (equations_by r) vars c.args.new.now) (take_all c.loop-x.x-index c.args.vars.now c.loop-x-test.false) c.loop-x.invariant
