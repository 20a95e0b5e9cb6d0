-- From the last one, and then from the first one.
use Rattle.std.proofs.Common.{List, sym, subst}
use Rattle.std.specs.Prelude.{All}
use Rattle.fvn_rewrite_rules.specs.declared.rule.Rule.{Rule}
use Rattle.fvn_critical_pairs.specs.Overlaps.{SubsumeAll}
use Rattle.fvn_critical.specs.inner.Choosing.{SidesFit}
use Rattle.fvn_critical.proofs.Subsuming.{all_through, some_fit}
use Rattle.fvn_critical.proofs.choosing.chosen_rules.Goals as goal

pub without_subsumed-requires : goal.without_subsumed-requires
without_subsumed-requires c = subst (All (SidesFit c.args.sig.now)) (sym c.in_ok-all.ensures) c.requires

pub without_subsumed-requires-2 : goal.without_subsumed-requires-2
without_subsumed-requires-2 c =
    some_fit c.args.sig.now c.in_ok-all.all.items c.in_ok-back.back.items c.in_ok-back.ensures.given (subst (All (SidesFit c.args.sig.now)) (sym c.in_ok-all.ensures) c.requires)

pub returns : goal.returns
returns c =
    subst (λ (l : List Rule). SubsumeAll c.args.sig.now l c.in_ok-chosen.chosen.items) c.in_ok-all.ensures
    (all_through c.args.sig.now c.in_ok-all.all.items c.in_ok-back.back.items c.in_ok-chosen.chosen.items c.in_ok-back.ensures c.in_ok-chosen.ensures)
