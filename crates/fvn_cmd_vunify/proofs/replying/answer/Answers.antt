-- A line for each unifier, and the end.
use Rattle.std.proofs.Common.{sym, subst}
use Rattle.std.specs.Prelude.{All}
use Rattle.fvn_forms.specs.Good.{IsGood}
use Rattle.fvn_signature.specs.Queries.{IsCompleted}
use Rattle.fvn_flat.specs.Bindings.{BindingsFit}
use Rattle.fvn_rewrite_laws.specs.Admissible.{AreAdmissible}
use Rattle.fvn_theory.specs.Equations.{equations_of}
use Rattle.fvn_problems.specs.Problems.{AreOfOneKind}
use Rattle.fvn_answer.specs.Asked.{HaveSorts}
use Rattle.fvn_cmd_vunify.proofs.Answering.{answer_fits}
use Rattle.fvn_cmd_vunify.proofs.Replied.{sides, all_fit, all_sorted, flat_from, answer-told}
use Rattle.fvn_cmd_vunify.proofs.replying.answer.Goals as goal

pub flattened-requires : goal.flattened-requires
flattened-requires g c =
    subst (λ pairs. All (AreOfOneKind c.signature-signature.result.now) pairs) (sym c.as_slice.ensures)
    (subst (λ d. All (AreOfOneKind d) c.args.problem.now.pairs) (sym c.signature-signature.ensures) c.requires.problem.kinded)

pub solved-requires-clause-given : goal.solved-requires-clause-given
solved-requires-clause-given g c κs within =
    let m = c.args.search.now.declared.now in
    let p = c.args.problem.now in
    sides m p c.requires.problem c.flattened_pairs_are_given.ensures (subst IsGood c.signature-signature.ensures c.recall_good.ensures) c.in_ok-given.given
    (flat_from m p _ c.signature-signature.ensures _ c.as_slice.ensures c.in_ok-given.given.pairs c.in_ok-given.ensures)

pub lines_of-requires-clause-fit : goal.lines_of-requires-clause-fit
lines_of-requires-clause-fit g c =
    let m = c.args.search.now.declared.now in
    let p = c.args.problem.now in
    subst (All (BindingsFit m.signature)) (sym c.as_slice-unifiers.ensures)
    (all_fit m p c.args.search.now.reach c.requires.problem c.in_ok-given.given.pairs (flat_from m p _ c.signature-signature.ensures _ c.as_slice.ensures c.in_ok-given.given.pairs c.in_ok-given.ensures) c.in_ok-r.r c.in_ok-r.ensures)

pub lines_of-requires-clause-sorts : goal.lines_of-requires-clause-sorts
lines_of-requires-clause-sorts g c =
    let m = c.args.search.now.declared.now in
    let p = c.args.problem.now in
    subst (All (HaveSorts m.signature p.vars)) (sym c.as_slice-unifiers.ensures)
    (all_sorted m p c.args.search.now.reach c.requires.problem c.in_ok-given.given.pairs (flat_from m p _ c.signature-signature.ensures _ c.as_slice.ensures c.in_ok-given.given.pairs c.in_ok-given.ensures) c.in_ok-r.r c.in_ok-r.ensures)

pub answer_after-requires : goal.answer_after-requires
answer_after-requires g c loss count =
    answer_fits c.args.search.now.declared.now c.args.search.now.reach c.in_ok-given.given.pairs c.in_ok-r.r c.in_ok-r.ensures loss count

pub returns : goal.returns
returns g c =
    let m = c.args.search.now.declared.now in
    let p = c.args.problem.now in
    let reach = c.args.search.now.reach in
    let d_is = c.signature-signature.ensures in
    answer-told m p reach c.requires.problem c.in_ok-given.given.pairs (flat_from m p _ d_is _ c.as_slice.ensures c.in_ok-given.given.pairs c.in_ok-given.ensures) c.in_ok-r.r c.in_ok-r.ensures c.rewriting_is_lawful.ensures c.flattened_pairs_are_given.ensures
    (record {
      irreducible = c.theory_unifiers_have_irreducible_values.ensures;
      shortest = c.complete_irreducible_unifiers_are_shortest.ensures;
      flat = c.flattened_pairs_have_one_theory_answer.ensures;
    })
    c.equal_lines_are_instances.ensures (subst IsGood d_is c.recall_good.ensures) (subst IsCompleted d_is c.recall_completed.ensures)
    (subst (λ es. AreAdmissible m.signature (equations_of es)) c.requires.search.equations c.requires.search.usable.admissible)
    _ c.as_slice-unifiers.ensures _ c.in_ok-lines.ensures _ _ c.in_ok-reply.ensures
