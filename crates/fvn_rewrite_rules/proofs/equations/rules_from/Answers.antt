-- The instances are flat, and with their extensions they are all rules.
use Rattle.std.proofs.Common.{◌++◌, ap, sym, ◌∙◌, subst}
use Rattle.std.specs.Prelude.{All, filter_map}
use Rattle.fvn_theory.specs.Equations.{sides_of}
use Rattle.fvn_rewrite_rules.specs.inner.Making.{IsKindedRule, extension_of, AreRulesFrom}
use Rattle.fvn_rewrite_rules.proofs.Choosing.{instances_kinded}
use Rattle.fvn_rewrite_rules.proofs.Standing.{all_rules}
use Rattle.fvn_rewrite_rules.proofs.equations.rules_from.Goals as goal

pub returns : goal.returns
returns c =
    let d = c.args.sig.now in
    let e = c.requires.equation in
    let equation = sides_of c.args.e.now in
    let old = c.in_ok-all.all.items in
    let more = c.in_ok-wide.ensures ∙ ap (filter_map (extension_of d)) c.as_slice.ensures.value in
    subst (AreRulesFrom d c.args.number equation) (sym (c.in_ok-append.ensures.items ∙ ap (λ (l : _). old ++ l) more))
    (all_rules d c.recall_good.ensures c.recall_completed.ensures equation (record { kind = e.kind; left = e.left; right = e.right }) e.not_fresh e.brings_none c.args.number old c.in_ok-all.ensures)

pub instances-requires-clause-kinds : goal.instances-requires-clause-kinds
instances-requires-clause-kinds c = record { kind = c.requires.equation.kind; left = c.requires.equation.left; right = c.requires.equation.right }

pub extensions-requires : goal.extensions-requires
extensions-requires c =
    let e = c.requires.equation in
    subst (All (IsKindedRule c.args.sig.now)) (sym c.as_slice.ensures.value)
    (instances_kinded c.args.sig.now c.recall_good.ensures c.recall_completed.ensures c.args.number (sides_of c.args.e.now) (record { kind = e.kind; left = e.left; right = e.right }) c.in_ok-all.all.items c.in_ok-all.ensures)
