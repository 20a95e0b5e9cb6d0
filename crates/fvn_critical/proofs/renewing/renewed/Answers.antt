-- The rule under the new names.
use Rattle.std.proofs.Common.{[], sym, ap, ◌∙◌, subst, refl, arith}
use Rattle.std.specs.Prelude.{AllPairs, ◌≢◌}
use Rattle.fvn_terms.specs.declared.plain.Var.{Var}
use Rattle.fvn_flat.specs.Variables.{with_variables}
use Rattle.fvn_flat.proofs.ListedVariables.{distinct_pairs, with_variables_distinct}
use Rattle.fvn_critical.proofs.Renewed.{rule_variables, renewed_by}
use Rattle.fvn_critical.proofs.renewing.renewed.Goals as goal

pub fresh_variables-requires : goal.fresh_variables-requires
fresh_variables-requires c =
    let rule = c.args.rule.now in
    let is = c.as_slice.ensures.value ∙ c.in_ok-all.ensures ∙ ap (with_variables rule.right) (c.in_ok-some.ensures ∙ ap (with_variables rule.left) c.new.ensures.items) in record {
      once = subst (AllPairs (λ (x y : Var). x ≢ y)) (sym is) (distinct_pairs (rule_variables rule) (with_variables_distinct rule.right (with_variables rule.left []) (with_variables_distinct rule.left [] tt)));
      number = omega (arith, c.if-len.false, c.len.ensures, c.as_slice.ensures.len);
    }

pub apply-requires : goal.apply-requires
apply-requires c = record { subst = c.in_ok-s.ensures.fits c.args.sig.now; term = c.requires.left }

pub apply-requires-2 : goal.apply-requires-2
apply-requires-2 c = record { subst = c.in_ok-s.ensures.fits c.args.sig.now; term = c.requires.right }

pub returns : goal.returns
returns c =
    let rule = c.args.rule.now in
    let is = c.as_slice.ensures.value ∙ c.in_ok-all.ensures ∙ ap (with_variables rule.right) (c.in_ok-some.ensures ∙ ap (with_variables rule.left) c.new.ensures.items) in
    renewed_by c.args.sig.now c.recall_good.ensures rule c.requires.left c.requires.right c.in_ok-s.next c.as_slice.result.now is c.in_ok-s.s c.in_ok-s.ensures.named c.in_ok-s.ensures.apart (c.in_ok-s.ensures.fits c.args.sig.now)
    record { left = c.in_ok-left.left; right = c.in_ok-right.right; equation = rule.equation } c.in_ok-left.ensures.exact c.in_ok-right.ensures.exact refl (omega (arith, c.in_ok-s.ensures.next))
    (omega (arith, c.if-len.false, c.len.ensures, c.as_slice.ensures.len, c.in_ok-s.ensures.next))
