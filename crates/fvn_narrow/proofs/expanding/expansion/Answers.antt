-- The children of the start, or none where a value is reducible.
use Rattle.std.proofs.Common.{true, [], refl, sym, subst}
use Rattle.std.specs.Prelude.{All}
use Rattle.std.proofs.lemmas.List.Elements.{All-weaker}
use Rattle.fvn_terms.specs.declared.plain.Var.{Var}
use Rattle.fvn_terms.specs.declared.declarations.Declarations.{Declarations}
use Rattle.fvn_terms.specs.Signature.{IsSort}
use Rattle.fvn_terms.specs.Rewriting.{IsIrreducible}
use Rattle.fvn_flat.specs.Bindings.{Bindings}
use Rattle.fvn_flat.specs.Solving.{substitution}
use Rattle.fvn_cover.specs.Covering.{IsFlatVariant}
use Rattle.fvn_rewrite.specs.Usable.{equations_by}
use Rattle.fvn_narrow_children.specs.Starts.{IsStartOf}
use Rattle.fvn_narrow_children.specs.Values.{AreIrreducible, AreReducibleAs}
use Rattle.fvn_narrow_children.proofs.ValueFacts.{unbound_irreducible}
use Rattle.fvn_narrow.proofs.Expanded.{is_expansion, nothing_expands}
use Rattle.fvn_narrow.proofs.Along.{ready_start}
use Rattle.fvn_narrow.proofs.expanding.expansion.Goals as goal

pub start_of-requires : goal.start_of-requires
start_of-requires g c = record {
  variant = subst (λ (d : Declarations). IsFlatVariant d c.args.v.now) (sym c.signature.ensures) c.requires.flat;
  holds = c.requires.holds;
}

pub some_reducible-requires : goal.some_reducible-requires
some_reducible-requires g c =
    let r = c.args.tools.now.rewriter.now in
    let start = c.in_ok-start.start in
    let o : IsStartOf r.signature start.next c.args.v.now start.variant = subst (λ (d : Declarations). IsStartOf d start.next c.args.v.now start.variant) c.signature.ensures c.in_ok-start.ensures in
    let laws = c.rules_are_coherent.ensures r.signature c.recall.ensures.good c.recall.ensures.completed (equations_by r) c.recall.ensures.usable.admissible in
    let sorts : All (λ (x : Var). IsSort r.signature x.sort) c.as_slice-vars.result.now = subst (All (λ (x : Var). IsSort r.signature x.sort)) (sym c.as_slice-vars.ensures) o.flat.vars in record {
      sorts = sorts;
      values = o.flat.values;
      old = subst (λ (b : Bindings). AreIrreducible r.signature (equations_by r) c.as_slice-vars.result.now b) (sym c.empty-none.ensures)
          (All-weaker (λ (x : Var). IsSort r.signature x.sort) (λ (x : Var). IsIrreducible r.signature (equations_by r) (substitution [] x)) (λ x h. unbound_irreducible r.signature (equations_by r) laws [] x h refl) c.as_slice-vars.result.now sorts);
    }

pub in_terms-requires : goal.in_terms-requires
in_terms-requires g c =
    let r = c.args.tools.now.rewriter.now in
    let start = c.in_ok-start.start in
    let o : IsStartOf r.signature start.next c.args.v.now start.variant = subst (λ (d : Declarations). IsStartOf d start.next c.args.v.now start.variant) c.signature.ensures c.in_ok-start.ensures in
    record {
      ready = ready_start r start.next c.args.v.now start.variant o (subst (λ vars. AreIrreducible r.signature (equations_by r) vars start.variant.subst) c.as_slice-vars.ensures (rw c.if-lost.false at c.in_ok-lost.ensures));
    }

pub returns-then-lost : goal.returns-then-lost
returns-then-lost g c =
    let n = c.args.tools.now in
    let r = n.rewriter.now in
    let start = c.in_ok-start.start in
    let o : IsStartOf r.signature start.next c.args.v.now start.variant = subst (λ (d : Declarations). IsStartOf d start.next c.args.v.now start.variant) c.signature.ensures c.in_ok-start.ensures in
    nothing_expands r c.recall.ensures.good c.recall.ensures.completed c.recall.ensures.usable (c.sequences_are_lawful.ensures r.signature (equations_by r))
    (g.S.Solves.most_unifiers n.solver.now) (g.S.Solves.drawn n.solver.now) c.args._first_fresh start.next c.args.v.now start.variant c.requires o c.renamed_forms_have_the_same_instances.ensures
    (subst (λ vars. AreReducibleAs r.signature (equations_by r) vars start.variant.subst true) c.as_slice-vars.ensures (rw c.if-lost.true at c.in_ok-lost.ensures))
    c.no_children.result c.no_children.ensures.children c.no_children.ensures.end

pub returns : goal.returns
returns g c =
    let n = c.args.tools.now in
    let r = n.rewriter.now in
    let start = c.in_ok-start.start in
    let o : IsStartOf r.signature start.next c.args.v.now start.variant = subst (λ (d : Declarations). IsStartOf d start.next c.args.v.now start.variant) c.signature.ensures c.in_ok-start.ensures in
    is_expansion r c.recall.ensures.good c.recall.ensures.completed c.recall.ensures.usable (c.sequences_are_lawful.ensures r.signature (equations_by r))
    (g.S.Solves.most_unifiers n.solver.now) (g.S.Solves.drawn n.solver.now) c.args._first_fresh start.next c.args.v.now start.variant c.requires o c.whole_expansions_lift.ensures c.in_ok-e.e c.in_ok-e.ensures
