-- The unifier as a variant without terms.
use Rattle.std.proofs.Common.{◌∙◌, ap, sym, subst}
use Rattle.fvn_axunify.specs.inner.Members.{IsKept, IsWith}
use Rattle.fvn_axunify.proofs.Added.{unifier_kept, flat_variant, all_flat, all_alike, with_one}
use Rattle.fvn_axunify.proofs.members.with_unifier.Goals as goal

made : (c : goal.After-new-arg-2-1) → IsKept c.args.task.now.sig.now c.args.task.now.problem.now c.args.task.now.vars.now c.args.task.now.first (record { terms = c.new.result; subst = c.args.subst; vars = c.from_vec.result })
made c =
    unifier_kept c.args.task.now.sig.now c.args.task.now.problem.now c.args.task.now.vars.now c.args.task.now.first c.requires.asked
    c.new.result c.from_vec.result c.args.subst c.new.ensures (c.from_vec.ensures ∙ c.in_ok-vars.ensures.items) c.recall_bindings.ensures c.requires.member

pub new-requires-2 : goal.new-requires-2
new-requires-2 c = flat_variant c.args.task.now.sig.now c.args.task.now.problem.now c.args.task.now.vars.now c.args.task.now.first c.requires.asked _ (made c)

pub with_member-requires-clause-flat : goal.with_member-requires-clause-flat
with_member-requires-clause-flat c =
    let is_kept =
    subst (IsKept c.args.task.now.sig.now c.args.task.now.problem.now c.args.task.now.vars.now c.args.task.now.first) (sym c.in_ok-v.ensures)
    (
    unifier_kept c.args.task.now.sig.now c.args.task.now.problem.now c.args.task.now.vars.now c.args.task.now.first c.requires.asked
    c.new.result c.from_vec.result c.args.subst c.new.ensures (c.from_vec.ensures ∙ c.in_ok-vars.ensures.items) c.recall_bindings.ensures c.requires.member
    ) in (
      flat_variant c.args.task.now.sig.now c.args.task.now.problem.now c.args.task.now.vars.now c.args.task.now.first c.requires.asked c.in_ok-v.v is_kept,
      all_flat c.args.task.now.sig.now c.args.task.now.problem.now c.args.task.now.vars.now c.args.task.now.first c.requires.asked c.args.kept c.requires.kept,
    )

pub with_member-requires-clause-alike : goal.with_member-requires-clause-alike
with_member-requires-clause-alike c =
    let is_kept =
    subst (IsKept c.args.task.now.sig.now c.args.task.now.problem.now c.args.task.now.vars.now c.args.task.now.first) (sym c.in_ok-v.ensures)
    (
    unifier_kept c.args.task.now.sig.now c.args.task.now.problem.now c.args.task.now.vars.now c.args.task.now.first c.requires.asked
    c.new.result c.from_vec.result c.args.subst c.new.ensures (c.from_vec.ensures ∙ c.in_ok-vars.ensures.items) c.recall_bindings.ensures c.requires.member
    ) in
    all_alike c.args.task.now.sig.now c.args.task.now.problem.now c.args.task.now.vars.now c.args.task.now.first c.requires.asked c.in_ok-v.v is_kept c.args.kept c.requires.kept

pub returns : goal.returns
returns c =
    let d = c.args.task.now.sig.now in
    subst (λ s. IsWith d c.args.task.now.problem.now c.args.task.now.vars.now c.args.task.now.first c.args.kept s c.in_ok-after.after) (ap (λ v. v.subst) c.in_ok-v.ensures)
    (
    with_one d c.args.task.now.problem.now c.args.task.now.vars.now c.args.task.now.first c.requires.asked
    (c.covering_of_variants_is_a_preorder.ensures d) c.covering_of_unifiers_is_instance.ensures c.args.kept c.requires.kept c.in_ok-v.v
    (
    subst (IsKept d c.args.task.now.problem.now c.args.task.now.vars.now c.args.task.now.first) (sym c.in_ok-v.ensures)
    (
    unifier_kept d c.args.task.now.problem.now c.args.task.now.vars.now c.args.task.now.first c.requires.asked
    c.new.result c.from_vec.result c.args.subst c.new.ensures (c.from_vec.ensures ∙ c.in_ok-vars.ensures.items) c.recall_bindings.ensures c.requires.member
    )
    )
    c.in_ok-after.after c.in_ok-after.ensures
    )
