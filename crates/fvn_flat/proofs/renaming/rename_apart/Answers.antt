-- A form has no more variables than symbols, and each is renamed once.
use Rattle.std.proofs.Common.{◌≡◌, ◌≢◌, ◌+◌, length, sym, ap, ◌∙◌, subst, arith}
use Rattle.std.specs.Prelude.{AllPairs}
use Rattle.fvn_flat.specs.Bindings.{value}
use Rattle.fvn_flat.specs.Variables.{with_variables, distinct_variables, renaming, OccursInForm, RenamesApart}
use Rattle.fvn_flat.proofs.ListedVariables.{distinct_pairs}
use Rattle.fvn_flat.proofs.Renamings.{variables_are_distinct, few_variables, renaming_apart}
use Rattle.fvn_flat.proofs.renaming.rename_apart.Goals as goal

pub fresh_variables-requires-clause-once : goal.fresh_variables-requires-clause-once
fresh_variables-requires-clause-once c =
    let vars : c.in_ok-vars.vars.items ≡ distinct_variables c.args.t.now = c.in_ok-vars.ensures ∙ ap (with_variables c.args.t.now) c.new.ensures.items in
    subst (AllPairs ◌≢◌) (sym (c.as_slice.ensures.value ∙ vars)) (distinct_pairs (distinct_variables c.args.t.now) (variables_are_distinct c.args.t.now))

pub fresh_variables-requires-clause-number : goal.fresh_variables-requires-clause-number
fresh_variables-requires-clause-number c =
    let vars : c.in_ok-vars.vars.items ≡ distinct_variables c.args.t.now = c.in_ok-vars.ensures ∙ ap (with_variables c.args.t.now) c.new.ensures.items in
    let n = ap length (c.as_slice.ensures.value ∙ vars) in
    let few = few_variables c.args.t.now in
    omega arith

pub apply-requires-clause-subst : goal.apply-requires-clause-subst
apply-requires-clause-subst c = c.in_ok-s.ensures.fits c.args.sig.now

pub returns-clause-apart : goal.returns-clause-apart
returns-clause-apart c =
    let vars : c.as_slice.result.now ≡ distinct_variables c.args.t.now = c.as_slice.ensures.value ∙ c.in_ok-vars.ensures ∙ ap (with_variables c.args.t.now) c.new.ensures.items in
    let next = c.in_ok-s.ensures.next ∙ ap (λ vs. c.args.first + length vs) vars in
    subst (λ m. RenamesApart (OccursInForm c.args.t.now) c.args.first m (value (renaming c.args.first (distinct_variables c.args.t.now)))) (sym next) (renaming_apart c.args.first c.args.t.now)
