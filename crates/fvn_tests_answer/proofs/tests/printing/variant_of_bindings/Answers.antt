-- All variables but the first are asked for, and the first has a term that fits.
use Rattle.std.proofs.Common.{get_or, false, sym, subst}
use Rattle.std.specs.Prelude.{Contains}
use Rattle.std.proofs.lemmas.List.{take_rest}
use Rattle.std.proofs.lemmas.List.Elements.{Contains-get_or}
use Rattle.fvn_terms.specs.declared.plain.Var.{Var}
use Rattle.fvn_flat.proofs.Composing.{bound_fits}
use Rattle.fvn_answer.specs.Asked.{AreAsked, HaveSorts}
use Rattle.fvn_tests_answer.proofs.Asking.{filled-list, rest-asked, rest-sorts}
use Rattle.fvn_tests_answer.proofs.tests.printing.variant_of_bindings.Goals as goal

abbrev nobody : Var
nobody = record { name = 0; sort = record { 0 = 0 }; fresh = false }

pub variant_line-requires-clause-vars : goal.variant_line-requires-clause-vars
variant_line-requires-clause-vars c =
    let d = c.args.declared.now.signature in
    let texts = c.args.problem.now.names.texts in
    let vars = c.as_slice-vars.result.now in
    subst (AreAsked d texts) (sym (take_rest vars 1)) (rest-asked d texts vars (subst (AreAsked d texts) (sym c.as_slice-vars.ensures) c.requires.vars))

pub variant_line-requires-clause-sorts : goal.variant_line-requires-clause-sorts
variant_line-requires-clause-sorts c =
    let d = c.args.declared.now.signature in
    let vars = c.as_slice-vars.result.now in
    let sorts = rw c.signature.ensures at c.in_ok-subst.ensures.sorts in
    subst (λ l. HaveSorts d l c.in_ok-subst.subst) (sym (take_rest vars 1))
    (rest-sorts d vars c.in_ok-subst.subst (subst (λ l. HaveSorts d l c.in_ok-subst.subst) (sym c.as_slice-vars.ensures) sorts))

pub variant_line-requires-clause-term : goal.variant_line-requires-clause-term
variant_line-requires-clause-term c =
    let vars = c.as_slice-vars.result.now in
    let x = get_or vars 0 nobody in
    let listed = subst (λ l. Contains l x) c.as_slice-vars.ensures (Contains-get_or vars 0 nobody (filled-list vars c.if-is_empty.ensures)) in
    bound_fits c.args.declared.now.signature c.in_ok-subst.subst x c.in-Some.term.now (rw c.signature.ensures at c.in_ok-subst.ensures.fit)
    (c.requires.vars.named x listed).sort c.in-Some.ensures
