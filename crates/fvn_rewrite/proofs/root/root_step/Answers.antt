-- The rules that are needed under the head.
use Rattle.std.proofs.Common.{sym, subst}
use Rattle.fvn_rewrite.specs.inner.Trying.{AllSidesFit, TriesAs}
use Rattle.fvn_rewrite.proofs.Roots.{sides_fit, root_as}
use Rattle.fvn_rewrite.proofs.root.root_step.Goals as goal

pub first_match-requires : goal.first_match-requires
first_match-requires c =
    let d = c.args.sig.now in record {
      rules = subst (AllSidesFit d) (sym c.headed.ensures) (sides_fit d c.args.rules.now c.requires.rules c.recall_good.ensures c.recall_completed.ensures c.rules_are_lawful.ensures c.args.f);
      term = c.requires.term;
    }

pub returns : goal.returns
returns c =
    let d = c.args.sig.now in
    root_as d c.args.rules.now c.requires.rules c.recall_good.ensures c.recall_completed.ensures c.rules_are_coherent.ensures c.args.f c.args.t.now c.in_ok-given.given c.requires.head
    (subst (λ rules. TriesAs d rules c.args.t.now c.in_ok-given.given) c.headed.ensures c.in_ok-given.ensures)
